-- What holds of giving rights up, in every family.
use Rattle.std.specs.Prelude.{◌≡◌, ℕ, ◌<◌, List, [], ◌∷◌, IfOk, Ok, filter, Result, bit_and}
use Rattle.refusal.specs.Chains.{and_then}
use Rattle.family.specs.Commuting.{Family}
use Rattle.family.specs.Rights.{lacks_right}
use Rattle.family.specs.Thin.{thin}
use Rattle.holder.specs.Dropping.{check_number, drop_right, thin_to}
use Rattle.holder.specs.declared.capability.Capability.{Capability}
use Rattle.holder.specs.declared.error.HolderRefusal.{HolderRefusal}

-- each right of a list dropped in turn
abbrev pub drop_each : Family → Capability → List ℕ → Result Capability HolderRefusal
drop_each F c [] = Ok c
drop_each F c (k ∷ ks) = and_then (drop_right F c k) (λ d. drop_each F d ks)

-- the rights that a mask does not keep
unfoldable pub rights_outside : ℕ → List ℕ
rights_outside mask = filter (lacks_right mask) (0 ∷ 1 ∷ 2 ∷ 3 ∷ 4 ∷ 5 ∷ 6 ∷ 7 ∷ [])

-- the order of two drops does not show
abbrev pub AnyOrder : Family → Capability → ℕ → Type 0
AnyOrder F c k =
    (j : ℕ) → j < 8 → k < 8 → and_then (drop_right F c k) (λ d. drop_right F d j)
    ≡ and_then (drop_right F c j) (λ d. drop_right F d k)

-- thinning to a mask and then to another is thinning to what both keep
abbrev pub TwiceIsOnce : Family → Capability → ℕ → Type 0
TwiceIsOnce F c mask =
    (m : ℕ) → m < 256 → and_then (thin_to F c mask) (λ d. thin_to F d m)
    ≡ thin_to F c (bit_and mask m)

-- thinning, where it is not refused, is dropping one by one each right that the mask does not keep
abbrev pub OneByOne : Family → Capability → ℕ → Type 0
OneByOne F c mask =
    check_number c < F.modulus → thin_to F c mask ≡ drop_each F c (rights_outside mask)

-- the check is what whoever knows the secret s computes for these rights: s thinned by the missing
-- ones
abbrev pub IsGenuine : (ℕ → ℕ → ℕ) → ℕ → Capability → Type 0
IsGenuine f s c = check_number c ≡ thin f s (lacks_right c.rights.bits)

-- what is left of a genuine capability is genuine too
abbrev pub StaysGenuine : Family → Capability → Result Capability HolderRefusal → Type 0
StaysGenuine F c r =
    (s : ℕ) → s < F.modulus → IsGenuine F.function s c → IfOk r (IsGenuine F.function s)
