-- Opening a store.
use Rattle.std.specs.Prelude.{ℕ, Bool, ◌&&◌, List, length, replicate, Ok, Err, Result, if◌then◌else◌}
use Rattle.refusal.specs.Chains.{unless}
use Rattle.family.specs.Commuting.{Family}
use Rattle.holder.specs.declared.capability.Port.{Port}
use Rattle.secret.specs.Fitness.{is_fit}
use Rattle.secret.specs.declared.secret.Secret.{Secret}
use Rattle.memory.specs.Soundness.{Content}
use Rattle.memory.specs.Wiped.{zeros_like}
use Rattle.store.specs.Kept.{Kept, grant_of}
use Rattle.store.specs.Outcomes.{Change}
use Rattle.store.specs.Requests.{granted}
use Rattle.store.specs.Sizes.{are_sizes_lawful, is_full_scratch}
use Rattle.store.specs.State.{kept_of}
use Rattle.store.specs.declared.error.StoreRefusal.{StoreRefusal}
use Rattle.store.specs.declared.error.StoreRefusal.TheVariants.{WrongSizes, UnfitSecret}
use Rattle.store.specs.declared.open.Opened.{Opened}

-- what a new store keeps; both tables begin at place 0
abbrev pub new_store : Family → Port → Secret → Content → Kept
new_store F port secret m = record {
  family = F;
  port = port;
  own = secret;
  files = length m.files;
  directories = length m.directories;
  area = length m.area;
  file_next = 0;
  directory_next = 0;
}

-- memory and scratch have the sizes that an opening asks for
abbrev pub is_openable : Content → List ℕ → Bool
is_openable m scratch = are_sizes_lawful m && is_full_scratch scratch

-- the secret is judged; memory is wiped, and the owner capability of object 0 told
abbrev pub opening_with : Family → Port → Secret → Content → Result Change StoreRefusal
opening_with F port secret m =
    unless (is_fit F secret.value) UnfitSecret
    (Ok (record {
      told = granted (grant_of (new_store F port secret m) 0 secret);
      after = record { kept = new_store F port secret m; memory = zeros_like m };
    }))

-- sizes come first
abbrev pub opening : Family → Port → Secret → Content → List ℕ → Result Change StoreRefusal
opening F port secret m scratch =
    unless (is_openable m scratch) WrongSizes (opening_with F port secret m)

-- a refused opening leaves memory as it was
abbrev pub memory_after : Content → Result Change StoreRefusal → Content
memory_after m (Ok change) = change.after.memory
memory_after m (Err e) = m

-- the scratch is zeros afterwards, or left as it was where sizes are wrong
abbrev pub scratch_opened : Content → List ℕ → List ℕ
scratch_opened m scratch = if is_openable m scratch then replicate (length scratch) 0 else scratch

-- a store as it was opened, over what memory holds then
abbrev pub opened_as : {F : Type 0} → (F → Family) → Content → Result (Opened F) StoreRefusal
    → Result Change StoreRefusal
opened_as meaning m (Ok opened) = Ok (record {
  told = granted opened.owner;
  after = record { kept = kept_of meaning opened.store; memory = m };
})
opened_as meaning m (Err e) = Err e
