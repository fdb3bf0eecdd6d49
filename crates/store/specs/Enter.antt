-- Entering a row into a directory.
use Rattle.std.specs.Prelude.{ℕ, ◌+◌, List, [], ◌∷◌, ◌++◌, Ok, Result, is_none, nat_lt}
use Rattle.refusal.specs.Chains.{unless, and_then, refused_as}
use Rattle.holder.specs.declared.capability.Capability.{Capability}
use Rattle.memory.specs.Records.{recounted_directory}
use Rattle.memory.specs.declared.row.Row.{Row}
use Rattle.admission.specs.Admission.{authentic_target}
use Rattle.admission.specs.declared.target.Target.{Target}
use Rattle.rows.specs.Search.{place_of_name}
use Rattle.store.specs.Outcomes.{Change}
use Rattle.store.specs.Requests.{done}
use Rattle.store.specs.Rows.{directory_in, rows_in, with_rows}
use Rattle.store.specs.State.{State}
use Rattle.store.specs.declared.row.DirectoryAt.{DirectoryAt}
use Rattle.store.specs.declared.error.StoreRefusal.{StoreRefusal}
use Rattle.store.specs.declared.error.StoreRefusal.TheVariants.{EntryNotAccepted, NameTaken, DirectoryFull}

-- a capability may be entered under a name: it is accepted now, no row has the name, and there is
-- room for one row more
abbrev pub entry_form : State → List ℕ → Capability → DirectoryAt → Result (Unit {0}) StoreRefusal
entry_form s bs c d =
    and_then (refused_as (λ _. EntryNotAccepted)
    (authentic_target s.kept.family s.kept.port.bytes s.kept.own s.memory c)) (λ _.
    unless (is_none (place_of_name bs (rows_in s.memory d))) NameTaken
    (unless (nat_lt d.found.count 16) DirectoryFull (Ok tt)))

-- the directory that it is entered into
abbrev pub room_in : State → List ℕ → Capability → Target → Result DirectoryAt StoreRefusal
room_in s bs c target =
    and_then (directory_in target) (λ d. and_then (entry_form s bs c d) (λ _. Ok d))

-- a row more, behind the others
abbrev pub with_row : State → Row → DirectoryAt → Change
with_row s row d = record {
  told = done;
  after = record s {
    memory =
        with_rows s.memory d.place (recounted_directory d.found (d.found.count + 1))
        (rows_in s.memory d ++ row ∷ []);
  };
}
