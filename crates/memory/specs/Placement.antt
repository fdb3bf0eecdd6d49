-- Where a new file lies.
use Rattle.std.specs.Prelude.{◌≡◌, ℕ, if◌then◌else◌, ◌+◌, ◌<◌, ◌≤◌, Bool, ◌&&◌, List, Some, None, Option, ◌==◌, nat_le}
use Rattle.table.specs.Lowest.{lowest}
use Rattle.std.specs.List.{AllByRecursion, list_all}
use Rattle.memory.specs.Parts.{is_clear_of, IsClearOf}
use Rattle.memory.specs.declared.file_record.FileRecord.{FileRecord}

-- a file may start here: all its bytes lie in the area and in no live file
abbrev pub is_allowed : List FileRecord → ℕ → ℕ → ℕ → Bool
is_allowed files area length start =
    nat_le (start + length) area && list_all (is_clear_of start length) files

-- the lowest start that is allowed; a file without bytes starts at 0
abbrev pub lowest_start : List FileRecord → ℕ → ℕ → Option ℕ
lowest_start files area length =
    if length == 0 then Some 0 else lowest (is_allowed files area length) (area + 1)

-- the same in words: all bytes lie in the area, and none of them in a live file
abbrev pub IsAllowed : List FileRecord → ℕ → ℕ → ℕ → Type 0
IsAllowed files area length start =
    (start + length ≤ area) × AllByRecursion (IsClearOf start length) files

-- what is promised of a new file's start
pub record IsLowestStart (files : List FileRecord) (area length : ℕ) (r : Option ℕ) : Type 0 where
  pub without_bytes : length ≡ 0 → r ≡ Some 0
  pub allowed_there : (s : ℕ) → r ≡ Some s → 0 < length → IsAllowed files area length s
  pub nowhere_lower : (s : ℕ) → r ≡ Some s → (t : ℕ) → t < s → IsAllowed files area length t → ⊥
  pub none_at_all : r ≡ None → (t : ℕ) → IsAllowed files area length t → ⊥
