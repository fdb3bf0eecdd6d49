-- The state of a store: what it keeps, and what memory holds.
use Rattle.family.specs.Commuting.{Family}
use Rattle.memory.specs.Held.{content}
use Rattle.memory.specs.Soundness.{Content, is_sound}
use Rattle.memory.specs.declared.memory.Memory.{Memory}
use Rattle.store.specs.Kept.{Kept}
use Rattle.store.specs.declared.store.Store.{Store}
use Rattle.std.specs.Prelude.{Bool}

pub record State : Type 0 where
  pub kept : Kept
  pub memory : Content

-- what a store keeps, its family by what that means
abbrev pub kept_of : {F : Type 0} → (F → Family) → Store F → Kept
kept_of meaning store = record {
  family = meaning store.gate.family;
  port = store.gate.port;
  own = store.gate.secret;
  files = store.files.size;
  directories = store.directories.size;
  area = store.area;
  file_next = store.files.next;
  directory_next = store.directories.next;
}

-- the state of a store over memory
abbrev pub state : {F : Type 0} → (F → Family) → Store F → Memory → State
state meaning store memory = record { kept = kept_of meaning store; memory = content memory }

-- memory is sound for the store
abbrev pub is_sound_for : State → Bool
is_sound_for s = is_sound s.kept.family.modulus s.kept.port.bytes s.memory
