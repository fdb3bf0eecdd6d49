-- The checks that every request meets, in their order.
use Rattle.std.specs.Prelude.{◌≡◌, ℕ, Bool, true, not, ◌&&◌, List, Result, ◌==◌, if◌then◌else◌}
use Rattle.refusal.specs.Chains.{unless, and_then, refused_as}
use Rattle.holder.specs.declared.capability.Capability.{Capability}
use Rattle.secret.specs.Fitness.{is_fit}
use Rattle.secret.specs.declared.secret.Secret.{Secret}
use Rattle.admission.specs.Admission.{authentic_target, authorized_target}
use Rattle.admission.specs.Objects.{secret_of}
use Rattle.admission.specs.declared.need.Need.{Need}
use Rattle.admission.specs.declared.target.Target.{Target}
use Rattle.store.specs.Rules.{brings_secret}
use Rattle.store.specs.Sizes.{sizes_agree, is_full_scratch}
use Rattle.store.specs.State.{State, is_sound_for}
use Rattle.store.specs.declared.error.StoreRefusal.{StoreRefusal}
use Rattle.store.specs.declared.error.StoreRefusal.TheVariants.{WrongSizes, UnsoundMemory, UnfitSecret, Denied}
use Rattle.store.specs.declared.rule.Rule.{Rule}
use Rattle.store.specs.declared.rule.Bring.{Bring}
use Rattle.store.specs.declared.rule.Bring.TheVariants.{Nothing, First, Next}

-- memory has the store's sizes and is sound for it
pub record IsInOrder (s : State) : Type 0 where
  pub sizes : sizes_agree s ≡ true
  pub sound : is_sound_for s ≡ true

-- memory has the sizes that it had at the opening, and a scratch that is brought has 256 numbers
abbrev pub is_sized : State → Rule → List ℕ → Bool
is_sized s rule scratch =
    if brings_secret rule.secret then (sizes_agree s && is_full_scratch scratch) else sizes_agree s

-- authenticate: the object of a capability of this port, by a check that its secret accepts; a
-- denial is told at a place
abbrev pub authentic_object : State → ℕ → Capability → Result Target StoreRefusal
authentic_object s place c =
    refused_as (λ d. Denied d place)
    (authentic_target s.kept.family s.kept.port.bytes s.kept.own s.memory c)

-- authorize: it is of a kind that may be asked, and the capability has one of the rights
abbrev pub authorized_object : Need → ℕ → Capability → Target → Result Target StoreRefusal
authorized_object need place c target =
    refused_as (λ d. Denied d place) (authorized_target need target c.rights.bits)

-- the secret is fit in the store's family
abbrev pub is_fit_for : State → Secret → Bool
is_fit_for s secret = is_fit s.kept.family secret.value

-- a secret that is brought is fit, and for an object that has one already it is another
abbrev pub is_usable : State → Target → Bring → Bool
is_usable s target Nothing = true
is_usable s target (First secret) = is_fit_for s secret
is_usable s target (Next secret) =
    is_fit_for s secret && not ((secret_of s.kept.own target).value == secret.value)

-- the result of a request: validate (sizes, soundness, form), authenticate, authorize, test the
-- secret, and then execute
abbrev pub result_of : {A : Type 0} → State → Bool → Rule → Capability
    → (Target → Result A StoreRefusal) → Result A StoreRefusal
result_of s sized rule c execute =
    unless sized WrongSizes
    (unless (is_sound_for s) UnsoundMemory
    (and_then rule.form (λ _.
    and_then (authentic_object s rule.place c) (λ object.
    and_then (authorized_object rule.need rule.place c object) (λ target.
    unless (is_usable s target rule.secret) UnfitSecret
    (execute target))))))
