use Rattle.std.proofs.Common.{sym, ap, ◌∙◌}
use Rattle.std.proofs.lemmas.Result.{err_from_is_err_and}
use Rattle.refusal.specs.Chains.{and_then}
use Rattle.store.specs.Inside.{admitted_by}
use Rattle.store.specs.Outcomes.{told_as}
use Rattle.store.specs.Read.{bytes_in, file_in}
use Rattle.store.specs.Requests.{the_bytes}
use Rattle.store.specs.State.{State, state}
use Rattle.store.proofs.OrderFacts.{read_reply}
use Rattle.store.proofs.store.Store.read.Goals as goal

pub returns-in_err-file-clause-reply : goal.returns-in_err-file-clause-reply
returns-in_err-file-clause-reply g c =
    let s : State = state g.F.CommutingFamily.meaning c.args.self.now c.args.memory.now in
    let p = err_from_is_err_and c.from_residual.result c.from_residual.ensures.1 in
    rw (p.1, p.2) (ap (told_as (λ f. the_bytes (bytes_in s.memory f)))
    (sym c.in_err-file.was ∙ c.admit_file.ensures.file
    ∙ ap (λ rule. and_then (admitted_by s rule c.args.capability) file_in) c.rule.ensures)
    ∙ read_reply s c.args.capability)
