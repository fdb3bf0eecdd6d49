use Rattle.std.proofs.Common.{sym, ap, ◌∙◌}
use Rattle.std.proofs.lemmas.Result.{err_from_is_err_and}
use Rattle.refusal.specs.Chains.{and_then}
use Rattle.rows.specs.Paths.{names_in}
use Rattle.store.specs.Inside.{validation}
use Rattle.store.specs.LookUp.{walk_end}
use Rattle.store.specs.Outcomes.{told_as}
use Rattle.store.specs.Requests.{found}
use Rattle.store.specs.State.{State, state}
use Rattle.store.proofs.AnswerWords.{walk_words}
use Rattle.store.proofs.LookFacts.{walk_reply}
use Rattle.store.proofs.store.Store.walk.Goals as goal

pub returns-in_err-validate-clause-reply : goal.returns-in_err-validate-clause-reply
returns-in_err-validate-clause-reply g c =
    let s : State = state g.F.CommutingFamily.meaning c.args.self.now c.args.memory.now in
    let p = err_from_is_err_and c.from_residual.result c.from_residual.ensures.1 in
    rw (p.1, p.2) (ap (λ r. told_as found
    (and_then r (λ _. walk_end s c.args.capability (names_in c.args.path.now) 1)))
    (sym c.in_err-validate.was ∙ c.validate.ensures.checks
    ∙ ap (λ rule. validation s rule.form) c.rule.ensures)
    ∙ walk_reply s c.args.capability c.args.path.now)

pub returns-clause-reply : goal.returns-clause-reply
returns-clause-reply g c =
    let s : State = state g.F.CommutingFamily.meaning c.args.self.now c.args.memory.now in
    ap (told_as found) (c.follow.ensures
    ∙ ap (λ r. and_then r (λ _. walk_end s c.args.capability (names_in c.args.path.now) 1))
    (sym c.in_ok-validate.was ∙ c.validate.ensures.checks
    ∙ ap (λ rule. validation s rule.form) c.rule.ensures))
    ∙ walk_reply s c.args.capability c.args.path.now

pub returns-clause-leads_on : goal.returns-clause-leads_on
returns-clause-leads_on g c =
    let s : State = state g.F.CommutingFamily.meaning c.args.self.now c.args.memory.now in
    walk_words s c.args.capability (names_in c.args.path.now) 1 c.follow.result c.follow.ensures
