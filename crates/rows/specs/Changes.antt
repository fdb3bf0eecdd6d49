-- New rows, and rows with one changed: a gap closed, and the last one written.
use Rattle.std.specs.Prelude.{ℕ, ◌+◌, ◌-◌, if◌then◌else◌, List, [], ◌∷◌, ◌++◌, length, take, drop, replicate, nat_lt}
use Rattle.holder.specs.declared.capability.Capability.{Capability}
use Rattle.memory.specs.Wiped.{zero_row}
use Rattle.memory.specs.declared.row.Masks.{Masks}
use Rattle.memory.specs.declared.row.Row.{Row}

-- the row of a name of at most 24 bytes, with zeros behind the name
abbrev pub row_of : List ℕ → Capability → Masks → Row
row_of name capability masks = record {
  length = length name;
  name = name ++ replicate (24 - length name) 0;
  capability = capability;
  masks = masks;
}

-- the rows without the one at a place
abbrev pub rows_without : ℕ → List Row → List Row
rows_without p rows = take p rows ++ drop (p + 1) rows

-- the rows behind a place each moved down by one, and a row of zeros where the last one was
abbrev pub with_gap_closed : ℕ → List Row → List Row
with_gap_closed p rows = rows_without p rows ++ zero_row ∷ []

-- the same, where there is such a place; else the rows as they are
abbrev pub with_gap_closed_if_there : ℕ → List Row → List Row
with_gap_closed_if_there p rows = if nat_lt p (length rows) then with_gap_closed p rows else rows

-- the rows with this one in the place of the last; no rows stay none
abbrev pub with_last : Row → List Row → List Row
with_last row rows =
    if nat_lt 0 (length rows) then take (length rows - 1) rows ++ row ∷ [] else rows
