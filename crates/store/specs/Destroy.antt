-- Destroying a file, or a directory without rows.
use Rattle.std.specs.Prelude.{ℕ, replicate, Ok, Err, Result, ◌==◌}
use Rattle.refusal.specs.Chains.{unless}
use Rattle.table.specs.Table.{with_freed}
use Rattle.memory.specs.Records.{blank_file, blank_directory}
use Rattle.memory.specs.Soundness.{Content}
use Rattle.memory.specs.declared.file_record.FileRecord.{FileRecord}
use Rattle.admission.specs.declared.error.Denial.TheVariants.{WrongKind}
use Rattle.admission.specs.declared.target.Target.{Target}
use Rattle.admission.specs.declared.target.Target.TheVariants.{Itself, File, Directory}
use Rattle.store.specs.Outcomes.{Change}
use Rattle.store.specs.Parts.{with_part}
use Rattle.store.specs.Requests.{done}
use Rattle.store.specs.State.{State}
use Rattle.store.specs.declared.error.StoreRefusal.{StoreRefusal}
use Rattle.store.specs.declared.error.StoreRefusal.TheVariants.{Denied, RowsLeft}

-- what may be destroyed: a file, and a directory that has no rows
abbrev pub destructible_object : Target → Result Target StoreRefusal
destructible_object Itself = Err (Denied WrongKind 0)
destructible_object (File p r) = Ok (File p r)
destructible_object (Directory p d) = unless (d.count == 0) RowsLeft (Ok (Directory p d))

-- the file's bytes zeroed and its record freed
abbrev pub without_file : Content → ℕ → FileRecord → Content
without_file m p r =
    record m {
      files = with_freed blank_file m.files p;
      area =
          with_part m.area r.start (replicate r.length 0);
    }

abbrev pub without_directory : Content → ℕ → Content
without_directory m p = record m { directories = with_freed blank_directory m.directories p }

abbrev pub without_object : Content → Target → Content
without_object m Itself = m
without_object m (File p r) = without_file m p r
without_object m (Directory p d) = without_directory m p

abbrev pub destruction : State → Target → Change
destruction s target =
    record { told = done; after = record s { memory = without_object s.memory target } }
