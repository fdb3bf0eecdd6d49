-- What the answers to queries say of the object presented, in words.
use Rattle.std.specs.Prelude.{◌≡◌, ℕ, List, [], ◌∷◌, length, Some, Ok, Option, slice_get}
use Rattle.holder.specs.declared.capability.Capability.{Capability}
use Rattle.memory.specs.Names.{name_of}
use Rattle.memory.specs.declared.directory_record.DirectoryRecord.{DirectoryRecord}
use Rattle.memory.specs.declared.file_record.FileRecord.{FileRecord}
use Rattle.memory.specs.declared.row.Row.{Row}
use Rattle.admission.specs.Admission.{authentic_target}
use Rattle.admission.specs.Objects.{target_at, object_number}
use Rattle.admission.specs.declared.target.Target.{Target}
use Rattle.admission.specs.declared.target.Target.TheVariants.{File, Directory}
use Rattle.store.specs.LookUp.{shown_of}
use Rattle.store.specs.Read.{bytes_in}
use Rattle.store.specs.Rows.{rows_of}
use Rattle.store.specs.State.{State}

-- the object presented is a file with these bytes
pub record IsFile (s : State) (c : Capability) (bs : List ℕ) : Type 0 where
  pub place : ℕ
  pub file : FileRecord
  pub presented : target_at s.memory (object_number c) ≡ Some (File place file)
  pub bytes : bs ≡ bytes_in s.memory file

-- the object presented is a file with so many bytes
pub record IsFileOfLength (s : State) (c : Capability) (n : ℕ) : Type 0 where
  pub bytes : List ℕ
  pub file : IsFile s c bytes
  pub counted : n ≡ length bytes

-- the object presented is a directory, and this is its counted row at a place
pub record IsRow (s : State) (c : Capability) (p : ℕ) (row : Row) : Type 0 where
  pub place : ℕ
  pub directory : DirectoryRecord
  pub presented : target_at s.memory (object_number c) ≡ Some (Directory place directory)
  pub there : slice_get (rows_of s.memory place directory) p ≡ Some row

-- these bytes are the name of its row that is wanted
pub record IsNameOfRow (s : State) (c : Capability) (wanted : List Row → Option ℕ)
    (bs : List ℕ) : Type 0 where
  pub index : ℕ
  pub row : Row
  pub counted : IsRow s c index row
  pub wanted_one : wanted (rows_of s.memory counted.place counted.directory) ≡ Some index
  pub name : bs ≡ name_of row

-- a name leads to what its row shows to the rights presented: the row's capability is accepted now,
-- and thinned to what they see
pub record LeadsTo (s : State) (c : Capability) (bs : List ℕ) (found : Capability) : Type 0 where
  pub index : ℕ
  pub row : Row
  pub counted : IsRow s c index row
  pub named : name_of row ≡ bs
  pub object : Target
  pub accepted : authentic_target s.kept.family s.kept.port.bytes s.kept.own s.memory row.capability
      ≡ Ok object
  pub shown : found ≡ shown_of s c.rights.bits row

-- names lead on, each from what the one before led to
abbrev pub LeadsOn : State → Capability → List (List ℕ) → Capability → Type 0
LeadsOn s c [] found = c ≡ found
LeadsOn s c (bs ∷ names) found =
    (next : Capability) × (LeadsTo s c bs next × LeadsOn s next names found)
