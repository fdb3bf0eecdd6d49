-- Reading a file, and asking its size.
use Rattle.std.specs.Prelude.{ℕ, List, Ok, Err, Result}
use Rattle.std.specs.Borrow.{Bor}
use Rattle.memory.specs.Soundness.{Content}
use Rattle.memory.specs.declared.file_record.FileRecord.{FileRecord}
use Rattle.admission.specs.declared.error.Denial.TheVariants.{WrongKind}
use Rattle.admission.specs.declared.target.Target.{Target}
use Rattle.admission.specs.declared.target.Target.TheVariants.{Itself, File, Directory}
use Rattle.store.specs.Parts.{part_of}
use Rattle.store.specs.declared.error.StoreRefusal.{StoreRefusal}
use Rattle.store.specs.declared.error.StoreRefusal.TheVariants.{Denied}

-- the record of a file; no other object has one
abbrev pub file_in : Target → Result FileRecord StoreRefusal
file_in Itself = Err (Denied WrongKind 0)
file_in (File p r) = Ok r
file_in (Directory p d) = Err (Denied WrongKind 0)

-- the file's part of the area
abbrev pub bytes_in : Content → FileRecord → List ℕ
bytes_in m r = part_of r.start r.length m.area

-- what a reference that was answered shows
abbrev pub shown_bytes : Result (Bor (List ℕ)) StoreRefusal → Result (List ℕ) StoreRefusal
shown_bytes (Ok r) = Ok r.now
shown_bytes (Err e) = Err e
