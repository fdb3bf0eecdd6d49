use Rattle.std.proofs.Common.{Ok, sym, ap, ◌∙◌}
use Rattle.std.proofs.lemmas.Result.{err_from_is_err_and}
use Rattle.refusal.specs.Chains.{and_then}
use Rattle.store.specs.Inside.{admitted_by}
use Rattle.store.specs.Outcomes.{told_as}
use Rattle.store.specs.Read.{file_in}
use Rattle.store.specs.Requests.{the_size}
use Rattle.store.specs.State.{State, state}
use Rattle.store.proofs.AnswerWords.{size_words}
use Rattle.store.proofs.OrderFacts.{size_reply}
use Rattle.store.proofs.store.Store.size.Goals as goal

pub returns-in_err-file-clause-reply : goal.returns-in_err-file-clause-reply
returns-in_err-file-clause-reply g c =
    let s : State = state g.F.CommutingFamily.meaning c.args.self.now c.args.memory.now in
    let p = err_from_is_err_and c.from_residual.result c.from_residual.ensures.1 in
    rw (p.1, p.2) (ap (told_as (λ f. the_size f.length))
    (sym c.in_err-file.was ∙ c.admit_file.ensures.file
    ∙ ap (λ rule. and_then (admitted_by s rule c.args.capability) file_in) c.rule.ensures)
    ∙ size_reply s c.args.capability)

pub returns-clause-reply : goal.returns-clause-reply
returns-clause-reply g c =
    let s : State = state g.F.CommutingFamily.meaning c.args.self.now c.args.memory.now in
    ap (told_as (λ f. the_size f.length)) (sym c.in_ok-file.was ∙ c.admit_file.ensures.file
    ∙ ap (λ rule. and_then (admitted_by s rule c.args.capability) file_in) c.rule.ensures)
    ∙ size_reply s c.args.capability

pub returns-clause-length : goal.returns-clause-length
returns-clause-length g c =
    let s : State = state g.F.CommutingFamily.meaning c.args.self.now c.args.memory.now in
    size_words s c.args.capability (Ok c.in_ok-file.file.length)
    (ap (told_as (λ f. the_size f.length)) (sym c.in_ok-file.was ∙ c.admit_file.ensures.file
    ∙ ap (λ rule. and_then (admitted_by s rule c.args.capability) file_in) c.rule.ensures)
    ∙ size_reply s c.args.capability)
