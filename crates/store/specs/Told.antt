-- Where what is told lies: the file's own part of the area, and a counted row of the directory.
use Rattle.std.specs.Prelude.{◌≡◌, ℕ, ◌+◌, ◌*◌, ◌<◌, ◌≤◌, ⊤, length, Some}
use Rattle.holder.specs.declared.capability.Capability.{Capability}
use Rattle.memory.specs.Soundness.{Content}
use Rattle.memory.specs.declared.directory_record.DirectoryRecord.{DirectoryRecord}
use Rattle.memory.specs.declared.file_record.FileRecord.{FileRecord}
use Rattle.admission.specs.Objects.{target_at, object_number}
use Rattle.admission.specs.declared.target.Target.TheVariants.{File, Directory}
use Rattle.store.specs.State.{State}
use Rattle.store.specs.declared.request.Answer.{Answer}
use Rattle.store.specs.declared.request.Answer.TheVariants.{Granted, Part, Found, Name, Length, Done}

-- start and length are those of the record of the file presented
pub record IsPartOfFile (s : State) (c : Capability) (start len : ℕ) : Type 0 where
  pub place : ℕ
  pub file : FileRecord
  pub presented : target_at s.memory (object_number c) ≡ Some (File place file)
  pub start_is : start ≡ file.start
  pub length_is : len ≡ file.length

-- the row is a counted one of the directory presented
pub record IsRowOfDirectory (s : State) (c : Capability) (i : ℕ) : Type 0 where
  pub place : ℕ
  pub directory : DirectoryRecord
  pub row : ℕ
  pub presented : target_at s.memory (object_number c) ≡ Some (Directory place directory)
  pub row_is : i ≡ 16 * place + row
  pub counted : row < directory.count

-- an answer to a query tells a part or a row of the object presented
abbrev pub IsOfPresented : State → Capability → Answer → Type 0
IsOfPresented s c (Part start len) = IsPartOfFile s c start len
IsOfPresented s c (Name i) = IsRowOfDirectory s c i
IsOfPresented s c (Granted d) = ⊤
IsOfPresented s c (Found d) = ⊤
IsOfPresented s c (Length n) = ⊤
IsOfPresented s c Done = ⊤

-- what is told lies in the area, or among the rows
abbrev pub IsWithin : Content → Answer → Type 0
IsWithin m (Part start len) = start + len ≤ length m.area
IsWithin m (Name i) = i < length m.rows
IsWithin m (Granted d) = ⊤
IsWithin m (Found d) = ⊤
IsWithin m (Length n) = ⊤
IsWithin m Done = ⊤
