-- Directories and their rows.
use Rattle.std.specs.Prelude.{ℕ, ◌*◌, List, length, Some, None, Option, Ok, Err, Result, nat_lt, slice_index_or, slice_set, if◌then◌else◌}
use Rattle.refusal.specs.Chains.{given, and_then}
use Rattle.memory.specs.Names.{name_of}
use Rattle.memory.specs.Soundness.{Content}
use Rattle.memory.specs.Wiped.{zero_row}
use Rattle.memory.specs.declared.directory_record.DirectoryRecord.{DirectoryRecord}
use Rattle.memory.specs.declared.row.Row.{Row}
use Rattle.admission.specs.declared.error.Denial.TheVariants.{WrongKind}
use Rattle.admission.specs.declared.target.Target.{Target}
use Rattle.admission.specs.declared.target.Target.TheVariants.{Itself, File, Directory}
use Rattle.store.specs.Parts.{part_of, with_part}
use Rattle.store.specs.declared.row.DirectoryAt.{DirectoryAt}
use Rattle.store.specs.declared.row.RowAt.{RowAt}
use Rattle.store.specs.declared.error.StoreRefusal.{StoreRefusal}
use Rattle.store.specs.declared.error.StoreRefusal.TheVariants.{Denied, NoSuchRow}

-- a directory and its place; no other object has rows
abbrev pub directory_in : Target → Result DirectoryAt StoreRefusal
directory_in Itself = Err (Denied WrongKind 0)
directory_in (File p r) = Err (Denied WrongKind 0)
directory_in (Directory p d) = Ok (record { place = p; found = d })

-- the counted rows of the directory at a place
abbrev pub rows_of : Content → ℕ → DirectoryRecord → List Row
rows_of m p d = part_of (16 * p) d.count m.rows

-- the same of a directory with its place
abbrev pub rows_in : Content → DirectoryAt → List Row
rows_in m d = rows_of m d.place d.found

-- the directory's record replaced, and its rows overwritten from the first on
abbrev pub with_rows : Content → ℕ → DirectoryRecord → List Row → Content
with_rows m p d rows =
    record m { directories = slice_set m.directories p d; rows = with_part m.rows (16 * p) rows }

-- the place of the row with a number, counted from 0
abbrev pub nth_place : ℕ → List Row → Option ℕ
nth_place n rows = if nat_lt n (length rows) then Some n else None

-- the row that is wanted of a directory, at a name of a walk or at 0
abbrev pub wanted_row : Content → (List Row → Option ℕ) → ℕ → Target → Result RowAt StoreRefusal
wanted_row m wanted place target =
    and_then (directory_in target) (λ d.
    given (wanted (rows_in m d)) (NoSuchRow place) (λ p. Ok (record { directory = d; row = p })))

-- the row at a place of a directory, and its name
abbrev pub row_at : Content → RowAt → Row
row_at m at = slice_index_or (rows_in m at.directory) at.row zero_row

abbrev pub name_at : Content → RowAt → List ℕ
name_at m at = name_of (row_at m at)
