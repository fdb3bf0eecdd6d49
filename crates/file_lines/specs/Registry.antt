-- A registry: a store with its owner capability, and the number that last became a secret.
use Rattle.std.specs.Prelude.{ℕ, List, codes, replicate, Err, Ok, Result}
use Rattle.family.specs.Commuting.{Family}
use Rattle.holder.specs.Dropping.{thin_to}
use Rattle.holder.specs.declared.capability.Capability.{Capability}
use Rattle.holder.specs.declared.capability.Port.{Port}
use Rattle.holder.specs.declared.error.HolderRefusal.{HolderRefusal}
use Rattle.memory.specs.Soundness.{Content}
use Rattle.memory.specs.declared.memory.Memory.{Memory}
use Rattle.refusal.specs.Chains.{and_then}
use Rattle.secret.specs.declared.secret.Secret.{Secret}
use Rattle.store.specs.Outcomes.{Change, Outcome}
use Rattle.store.specs.State.{state, State}
use Rattle.store.specs.Kept.{Kept, grant_of}
use Rattle.store.specs.Open.{opening}
use Rattle.store.specs.Requests.{Told, Update, create_file, read, revoke}
use Rattle.store.specs.Serve.{outcome_of, reply_to}
use Rattle.store.specs.declared.error.StoreRefusal.{StoreRefusal}
use Rattle.file_lines.specs.Secrets.{next_number}
use Rattle.file_lines.specs.declared.registry.Registry.{Registry}

pub record RegistryState : Type 0 where
  pub store : State
  pub owner : Capability
  pub last : ℕ

abbrev pub registry_state : {F : Type 0} → (F → Family) → Registry F → Memory → RegistryState
registry_state meaning registry memory = record {
  store = state meaning registry.store memory;
  owner = registry.owner;
  last = registry.last;
}

-- the state of a registry that was opened, or the refusal
abbrev pub opened_state
    : {F E : Type 0} → (F → Family) → Result (Registry F) E → Memory → Result RegistryState E
opened_state meaning (Ok registry) memory = Ok (registry_state meaning registry memory)
opened_state meaning (Err e) memory = Err e

-- the port of the store, the six bytes "PUMP01"
abbrev pub port : Port
port = record { bytes = codes "PUMP01" }

abbrev pub zero_scratch : List ℕ
zero_scratch = replicate 256 0

abbrev pub secret_with : ℕ → Secret
secret_with number = record { value = number }

-- a new registry: the owner capability is that of object 0
abbrev pub first_state : ℕ → Change → RegistryState
first_state number opened = record {
  store = opened.after;
  owner = grant_of opened.after.kept 0 (secret_with number);
  last = number;
}

-- a store is opened with the secret of this number
abbrev pub registry_opening : Family → ℕ → Content → Result RegistryState StoreRefusal
registry_opening F number m =
    and_then (opening F port (secret_with number) m zero_scratch)
    (λ opened. Ok (first_state number opened))

-- what a request comes to: its answer, and the registry afterwards
pub record ActionOutcome : Type 0 where
  pub answer : Result Told StoreRefusal
  pub after : RegistryState

abbrev pub action_outcome : Result Told StoreRefusal → RegistryState → ActionOutcome
action_outcome answer s = record { answer = answer; after = s }

-- the outcome of an update, after which this number is the last one
abbrev pub update_outcome : Outcome → Capability → ℕ → ActionOutcome
update_outcome o owner number = action_outcome o.answer (record {
  store = o.after;
  owner = owner;
  last = number;
})

-- an update that brings the secret of this number
unfoldable pub outcome_with : RegistryState → Capability → ℕ → (Secret → Update) → ActionOutcome
outcome_with s c number to_do =
    update_outcome (outcome_of s.store c (to_do (secret_with number)) zero_scratch) s.owner number

-- the number of the next secret
abbrev pub next : Kept → ℕ → ℕ
next k last = next_number k.family last

-- bytes are filed with the owner capability of the store, and with the next secret
unfoldable pub filing_outcome : RegistryState → List ℕ → ActionOutcome
filing_outcome s bytes = outcome_with s s.owner (next s.store.kept s.last) (create_file bytes)

-- a run gets the next secret
unfoldable pub revoking_outcome : RegistryState → Capability → ActionOutcome
revoking_outcome s run = outcome_with s run (next s.store.kept s.last) revoke

-- a run is read
unfoldable pub reading_reply : RegistryState → Capability → Result Told StoreRefusal
reading_reply s run = reply_to s.store run read

-- a capability with no right but right 0, reading
unfoldable pub reader_of : Kept → Capability → Result Capability HolderRefusal
reader_of k run = thin_to k.family run 1
