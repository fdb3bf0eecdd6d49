use Rattle.std.proofs.Common.{Ok, Result, sym, ap, ◌∙◌}
use Rattle.std.proofs.lemmas.Result.{err_from_is_err_and}
use Rattle.refusal.specs.Chains.{and_then}
use Rattle.store.specs.Enter.{entry_form}
use Rattle.store.specs.Inside.{admitted_by}
use Rattle.store.specs.Rows.{directory_in}
use Rattle.store.specs.State.{State, state}
use Rattle.store.specs.declared.row.DirectoryAt.{DirectoryAt}
use Rattle.store.specs.declared.error.StoreRefusal.{StoreRefusal}
use Rattle.store.proofs.LookFacts.{and_then-and_then}
use Rattle.store.proofs.store.Store.find_room.Goals as goal

pub returns-in_err-directory-clause-directory : goal.returns-in_err-directory-clause-directory
returns-in_err-directory-clause-directory g c =
    let s : State = state g.F.CommutingFamily.meaning c.args.self.now c.args.memory.now in
    let p = err_from_is_err_and c.from_residual.result c.from_residual.ensures.1 in
    let next : DirectoryAt → Result DirectoryAt StoreRefusal =
    λ d. and_then (entry_form s c.args.name.now c.args.entry d) (λ _. Ok d) in
    rw (p.1, p.2) (ap (λ r. and_then r next)
    (sym c.in_err-directory.was ∙ c.admit_directory.ensures.directory)
    ∙ and_then-and_then (admitted_by s c.args.rule c.args.capability) directory_in next)

pub returns-in_err-check_entry-clause-directory : goal.returns-in_err-check_entry-clause-directory
returns-in_err-check_entry-clause-directory g c =
    let s : State = state g.F.CommutingFamily.meaning c.args.self.now c.args.memory.now in
    let p =
    err_from_is_err_and c.from_residual-in_err-check_entry.result
    c.from_residual-in_err-check_entry.ensures.1 in
    let next : DirectoryAt → Result DirectoryAt StoreRefusal =
    λ d. and_then (entry_form s c.args.name.now c.args.entry d) (λ _. Ok d) in
    rw (p.1, p.2) (ap (λ r. and_then r (λ _. Ok c.in_ok-directory.directory))
    (sym c.in_err-check_entry.was ∙ c.check_entry.ensures)
    ∙ ap (λ r. and_then r next) (sym c.in_ok-directory.was ∙ c.admit_directory.ensures.directory)
    ∙ and_then-and_then (admitted_by s c.args.rule c.args.capability) directory_in next)
