use Rattle.std.proofs.Common.{Ok, Result, sym, ap, ◌∙◌}
use Rattle.std.proofs.lemmas.Result.{err_from_is_err_and}
use Rattle.refusal.specs.Chains.{and_then, given}
use Rattle.store.specs.Inside.{admitted_by, wanted_place}
use Rattle.store.specs.Rows.{directory_in, rows_in}
use Rattle.store.specs.State.{State, state}
use Rattle.store.specs.declared.row.DirectoryAt.{DirectoryAt}
use Rattle.store.specs.declared.row.RowAt.{RowAt}
use Rattle.store.specs.declared.error.StoreRefusal.{StoreRefusal}
use Rattle.store.specs.declared.error.StoreRefusal.TheVariants.{NoSuchRow}
use Rattle.store.proofs.LookFacts.{and_then-and_then}
use Rattle.store.proofs.store.Store.find_row.Goals as goal

pub returns-in_err-directory-clause-row : goal.returns-in_err-directory-clause-row
returns-in_err-directory-clause-row g c =
    let s : State = state g.F.CommutingFamily.meaning c.args.self.now c.args.memory.now in
    let next : DirectoryAt → Result RowAt StoreRefusal =
    λ d. given (wanted_place c.args.wanted (rows_in s.memory d)) (NoSuchRow 0)
    (λ p. Ok (record { directory = d; row = p })) in
    let p = err_from_is_err_and c.from_residual.result c.from_residual.ensures.1 in
    rw (p.1, p.2) (ap (λ r. and_then r next)
    (sym c.in_err-directory.was ∙ c.admit_directory.ensures.directory)
    ∙ and_then-and_then (admitted_by s c.args.rule c.args.capability) directory_in next)
