-- When memory is sound.
use Rattle.std.specs.Prelude.{ℕ, ◌+◌, Bool, true, not, ◌&&◌, ◌||◌, List, [], ◌∷◌, length, take, drop, nat_le, nat_lt}
use Rattle.std.specs.List.{list_all}
use Rattle.std.specs.Str.{bytes_eq}
use Rattle.holder.specs.Dropping.{check_number}
use Rattle.secret.specs.declared.secret.Secret.{Secret}
use Rattle.memory.specs.EachTwo.{pairwise}
use Rattle.memory.specs.Names.{is_same_name, is_lawful_name, name_of}
use Rattle.memory.specs.Parts.{is_clear_of}
use Rattle.memory.specs.declared.file_record.FileRecord.{FileRecord}
use Rattle.memory.specs.declared.directory_record.DirectoryRecord.{DirectoryRecord}
use Rattle.memory.specs.declared.row.Row.{Row}

-- a record that is live has a secret below n
abbrev pub is_secret_below : ℕ → Bool → Secret → Bool
is_secret_below n live secret = not live || nat_lt secret.value n

-- a live file ends at or before the area's end
abbrev pub is_within_area : ℕ → FileRecord → Bool
is_within_area area r = not r.live || nat_le (r.start + r.length) area

-- two live files share no byte
abbrev pub are_files_apart : FileRecord → FileRecord → Bool
are_files_apart r r' = not r.live || is_clear_of r.start r.length r'

-- a directory record, also a free one, counts at most 16 rows
abbrev pub has_few_rows : DirectoryRecord → Bool
has_few_rows d = nat_le d.count 16

-- a row with a lawful name, this port and a check below n
abbrev pub is_row_sound : ℕ → List ℕ → Row → Bool
is_row_sound n port row =
    is_lawful_name (name_of row)
    && (nat_le row.length 24
    && (bytes_eq row.capability.port.bytes port && nat_lt (check_number row.capability) n))

-- the rows of one directory: each is sound, and no two have the same name
abbrev pub are_rows_sound : ℕ → List ℕ → List Row → Bool
are_rows_sound n port rows =
    list_all (is_row_sound n port) rows
    && pairwise (λ r r'. not (is_same_name (name_of r) (name_of r'))) rows

-- a directory is free, or its counted rows are sound; its rows come first
abbrev pub is_directory_sound : ℕ → List ℕ → DirectoryRecord → List Row → Bool
is_directory_sound n port d rows = not d.live || are_rows_sound n port (take d.count rows)

-- the counted rows of each live directory; each directory has sixteen rows, one after the other
abbrev pub are_directories_sound : ℕ → List ℕ → List DirectoryRecord → List Row → Bool
are_directories_sound n port [] rows = true
are_directories_sound n port (d ∷ ds) rows =
    is_directory_sound n port d rows && are_directories_sound n port ds (drop 16 rows)

-- what memory holds, apart from where it lies
pub record Content : Type 0 where
  pub files : List FileRecord
  pub directories : List DirectoryRecord
  pub rows : List Row
  pub area : List ℕ

-- live secrets are below n
abbrev pub are_secrets_below : ℕ → Content → Bool
are_secrets_below n m =
    list_all (λ r. is_secret_below n r.live r.secret) m.files
    && list_all (λ d. is_secret_below n d.live d.secret) m.directories

-- live files lie in the area, and no two of them share a byte
abbrev pub are_files_sound : Content → Bool
are_files_sound m =
    list_all (is_within_area (length m.area)) m.files && pairwise are_files_apart m.files

-- row counts are at most 16, and the counted rows of live directories are sound
abbrev pub are_all_rows_sound : ℕ → List ℕ → Content → Bool
are_all_rows_sound n port m =
    list_all has_few_rows m.directories && are_directories_sound n port m.directories m.rows

-- memory is sound for a family with modulus n and a store with this port
unfoldable pub is_sound : ℕ → List ℕ → Content → Bool
is_sound n port m = are_secrets_below n m && (are_files_sound m && are_all_rows_sound n port m)
