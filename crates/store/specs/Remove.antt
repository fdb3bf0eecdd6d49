-- Removing a row of a directory.
use Rattle.std.specs.Prelude.{◌-◌}
use Rattle.memory.specs.Records.{recounted_directory}
use Rattle.rows.specs.Changes.{with_gap_closed}
use Rattle.store.specs.Outcomes.{Change}
use Rattle.store.specs.Requests.{done}
use Rattle.store.specs.Rows.{rows_in, with_rows}
use Rattle.store.specs.State.{State}
use Rattle.store.specs.declared.row.RowAt.{RowAt}

-- a row less: those behind it move up, and the last place becomes zeros
abbrev pub without_row : State → RowAt → Change
without_row s at = record {
  told = done;
  after = record s {
    memory =
        with_rows s.memory at.directory.place
        (recounted_directory at.directory.found (at.directory.found.count - 1))
        (with_gap_closed at.row (rows_in s.memory at.directory));
  };
}
