use Rattle.std.proofs.Common.{slice_index_or, ap, ◌∙◌, rules}
use Rattle.memory.specs.Wiped.{zero_row}
use Rattle.rows.specs.Search.{place_of_name}
use Rattle.store.specs.LookUp.{shown_now}
use Rattle.store.specs.Rows.{rows_in}
use Rattle.store.specs.State.{State, state}
use Rattle.store.specs.declared.error.StoreRefusal.TheVariants.{NoSuchRow}
use Rattle.store.proofs.LookFacts.{index_any, row_found}
use Rattle.store.proofs.store.Store.find.Goals as goal

pub returns : goal.returns
returns g c =
    let s : State = state g.F.CommutingFamily.meaning c.args.self.now c.args.memory.now in
    c.show.ensures
    ∙ ap (λ row. shown_now s c.args.rights.bits row c.args.place)
    (c.index-rows-at.is ∙ index_any c.list-rows.result.now c.in_ok-at.at c.index-rows-at.result
    zero_row (search rules)
    ∙ ap (λ rows. slice_index_or rows c.in_ok-at.at zero_row) c.list-rows.ensures.rows)
    ∙ row_found (place_of_name c.args.name.now (rows_in s.memory c.args.directory)) c.in_ok-at.at
    (NoSuchRow c.args.place)
    (λ p. shown_now s c.args.rights.bits
    (slice_index_or (rows_in s.memory c.args.directory) p zero_row) c.args.place) (search rules)
