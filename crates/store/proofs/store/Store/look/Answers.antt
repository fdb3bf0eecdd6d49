use Rattle.std.proofs.Common.{Result, slice_index_or, sym, ap, ◌∙◌}
use Rattle.std.proofs.lemmas.Result.{err_from_is_err_and}
use Rattle.refusal.specs.Chains.{and_then, given}
use Rattle.holder.specs.declared.capability.Capability.{Capability}
use Rattle.memory.specs.Wiped.{zero_row}
use Rattle.rows.specs.Search.{place_of_name}
use Rattle.store.specs.LookUp.{shown_now}
use Rattle.store.specs.Rows.{rows_in}
use Rattle.store.specs.State.{State, state}
use Rattle.store.specs.declared.row.DirectoryAt.{DirectoryAt}
use Rattle.store.specs.declared.error.StoreRefusal.{StoreRefusal}
use Rattle.store.specs.declared.error.StoreRefusal.TheVariants.{NoSuchRow}
use Rattle.store.proofs.LookFacts.{look_from}
use Rattle.store.proofs.store.Store.look.Goals as goal

pub returns-in_err-directory : goal.returns-in_err-directory
returns-in_err-directory g c =
    let s : State = state g.F.CommutingFamily.meaning c.args.self.now c.args.memory.now in
    let p = err_from_is_err_and c.from_residual.result c.from_residual.ensures.1 in
    let next : DirectoryAt → Result Capability StoreRefusal = λ d.
    given (place_of_name c.args.name.now (rows_in s.memory d)) (NoSuchRow c.args.place)
    (λ p. shown_now s c.args.capability.rights.bits
    (slice_index_or (rows_in s.memory d) p zero_row) c.args.place) in
    rw (p.1, p.2) (ap (λ r. and_then r next) (sym c.in_err-directory.was ∙ c.see.ensures.directory)
    ∙ sym (look_from s c.args.capability c.args.name.now c.args.place))

pub returns : goal.returns
returns g c =
    let s : State = state g.F.CommutingFamily.meaning c.args.self.now c.args.memory.now in
    let next : DirectoryAt → Result Capability StoreRefusal = λ d.
    given (place_of_name c.args.name.now (rows_in s.memory d)) (NoSuchRow c.args.place)
    (λ p. shown_now s c.args.capability.rights.bits
    (slice_index_or (rows_in s.memory d) p zero_row) c.args.place) in
    c.find.ensures ∙ ap (λ r. and_then r next) (sym c.in_ok-directory.was ∙ c.see.ensures.directory)
    ∙ sym (look_from s c.args.capability c.args.name.now c.args.place)
