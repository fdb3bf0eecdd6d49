use Rattle.std.proofs.Common.{sym, ap, ◌∙◌}
use Rattle.std.proofs.lemmas.Result.{err_from_is_err_and}
use Rattle.refusal.specs.Chains.{and_then}
use Rattle.store.specs.Inside.{validation}
use Rattle.store.specs.LookUp.{lookup_by}
use Rattle.store.specs.Outcomes.{told_as}
use Rattle.store.specs.Requests.{found}
use Rattle.store.specs.State.{State, state}
use Rattle.store.proofs.AnswerWords.{look_up_words}
use Rattle.store.proofs.LookFacts.{look_up_reply}
use Rattle.store.proofs.store.Store.look_up.Goals as goal

pub returns-in_err-validate-clause-reply : goal.returns-in_err-validate-clause-reply
returns-in_err-validate-clause-reply g c =
    let s : State = state g.F.CommutingFamily.meaning c.args.self.now c.args.memory.now in
    let p = err_from_is_err_and c.from_residual.result c.from_residual.ensures.1 in
    rw (p.1, p.2) (ap (λ r. told_as found
    (and_then r (λ _. lookup_by s c.args.capability c.args.name.now 0)))
    (sym c.in_err-validate.was ∙ c.validate.ensures.checks
    ∙ ap (λ rule. validation s rule.form) c.rule.ensures)
    ∙ look_up_reply s c.args.capability c.args.name.now)

pub returns-clause-reply : goal.returns-clause-reply
returns-clause-reply g c =
    let s : State = state g.F.CommutingFamily.meaning c.args.self.now c.args.memory.now in
    ap (told_as found) (c.look.ensures
    ∙ ap (λ r. and_then r (λ _. lookup_by s c.args.capability c.args.name.now 0))
    (sym c.in_ok-validate.was ∙ c.validate.ensures.checks
    ∙ ap (λ rule. validation s rule.form) c.rule.ensures))
    ∙ look_up_reply s c.args.capability c.args.name.now

pub returns-clause-leads_to : goal.returns-clause-leads_to
returns-clause-leads_to g c =
    let s : State = state g.F.CommutingFamily.meaning c.args.self.now c.args.memory.now in
    look_up_words s c.args.capability c.args.name.now 0 c.look.result c.look.ensures
