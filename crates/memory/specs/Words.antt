-- Soundness in words. The test of memory decides exactly this.
use Rattle.std.specs.Prelude.{◌≡◌, ℕ, ◌+◌, ◌<◌, ◌≤◌, true, List, [], ◌∷◌, length, take, drop, ◌≢◌}
use Rattle.std.specs.List.{AllByRecursion}
use Rattle.holder.specs.Dropping.{check_number}
use Rattle.memory.specs.Names.{IsSameName, name_of}
use Rattle.memory.specs.Parts.{IsClearOf}
use Rattle.memory.specs.Soundness.{Content}
use Rattle.memory.specs.declared.directory_record.DirectoryRecord.{DirectoryRecord}
use Rattle.memory.specs.declared.row.Row.{Row}

-- something holds of each two elements, the earlier one first
abbrev pub EachTwo : {A : Type 0} → (A → A → Type 0) → List A → Type 0
EachTwo P [] = Unit {0}
EachTwo P (x ∷ xs) = AllByRecursion (P x) xs × EachTwo P xs

-- a name: 1 to 24 bytes from 33 to 126, without the slash
abbrev pub IsLawfulName : List ℕ → Type 0
IsLawfulName bs =
    (1 ≤ length bs)
    × ((length bs ≤ 24) × AllByRecursion (λ b. (33 ≤ b) × ((b ≤ 126) × (b ≢ 47))) bs)

-- a row of a store with this port, in a family with modulus n
abbrev pub IsRowSound : ℕ → List ℕ → Row → Type 0
IsRowSound n port row =
    IsLawfulName (name_of row)
    × ((row.length ≤ 24)
    × ((row.capability.port.bytes ≡ port) × (check_number row.capability < n)))

-- the rows of a directory: each is sound, and no two names are equal
abbrev pub AreRowsSound : ℕ → List ℕ → List Row → Type 0
AreRowsSound n port rows =
    AllByRecursion (IsRowSound n port) rows
    × EachTwo (λ r r'. IsSameName (name_of r) (name_of r') → ⊥) rows

-- the counted rows of each live directory, sixteen rows for each
abbrev pub AreDirectoriesSound : ℕ → List ℕ → List DirectoryRecord → List Row → Type 0
AreDirectoriesSound n port [] rows = Unit {0}
AreDirectoriesSound n port (d ∷ ds) rows =
    (d.live ≡ true → AreRowsSound n port (take d.count rows))
    × AreDirectoriesSound n port ds (drop 16 rows)

pub record IsSound (n : ℕ) (port : List ℕ) (m : Content) : Type 0 where
  pub file_secrets : AllByRecursion (λ r. r.live ≡ true → r.secret.value < n) m.files
  pub directory_secrets : AllByRecursion (λ d. d.live ≡ true → d.secret.value < n) m.directories
  pub within : AllByRecursion (λ r. r.live ≡ true → r.start + r.length ≤ length m.area) m.files
  pub apart : EachTwo (λ r r'. r.live ≡ true → IsClearOf r.start r.length r') m.files
  pub counts : AllByRecursion (λ d. d.count ≤ 16) m.directories
  pub rows : AreDirectoriesSound n port m.directories m.rows
