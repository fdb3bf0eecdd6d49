-- Giving rights up: dropping one right, and thinning to a mask.
use Rattle.std.specs.Prelude.{ℕ, ◌-◌, ◌^◌, if◌then◌else◌, Ok, Result, bit_and, nat_lt}
use Rattle.refusal.specs.Chains.{unless}
use Rattle.family.specs.Commuting.{Family}
use Rattle.family.specs.Rights.{has_right}
use Rattle.family.specs.Thin.{thin}
use Rattle.holder.specs.Checks.{check_of}
use Rattle.holder.specs.declared.capability.Capability.{Capability}
use Rattle.holder.specs.declared.error.HolderRefusal.{HolderRefusal}
use Rattle.holder.specs.declared.error.HolderRefusal.TheVariants.{NoSuchRight, CheckTooLarge}

-- the number of a capability's check
abbrev pub check_number : Capability → ℕ
check_number c = c.check.value

-- the same object, with the rights r and the check number v
abbrev pub with_rights : Capability → ℕ → ℕ → Capability
with_rights c r v = record c { rights = record { bits = r }; check = check_of v }

-- every right but k, as a byte
abbrev pub all_rights_but : ℕ → ℕ
all_rights_but k = 255 - 2 ^ k

-- c without right k: the bit cleared and the check through f_k, or c itself where the right is
-- missing
abbrev pub without_right : (ℕ → ℕ → ℕ) → Capability → ℕ → Capability
without_right f c k =
    if has_right c.rights.bits k
    then with_rights c (bit_and c.rights.bits (all_rights_but k)) (f k (check_number c)) else c

-- dropping right k in a family with modulus n and functions f
abbrev pub drop_right : Family → Capability → ℕ → Result Capability HolderRefusal
drop_right F c k =
    unless (nat_lt k 8) NoSuchRight
    (unless (nat_lt (check_number c) F.modulus) CheckTooLarge (Ok (without_right F.function c k)))

-- the held rights whose mask bit is 0, as a byte
abbrev pub lost_rights : ℕ → ℕ → ℕ
lost_rights held mask = bit_and held (255 - mask)

-- c with its held rights within the mask only, and the check through the functions of those it lost
abbrev pub within_mask : (ℕ → ℕ → ℕ) → Capability → ℕ → Capability
within_mask f c mask =
    with_rights c (bit_and c.rights.bits mask)
    (thin f (check_number c) (has_right (lost_rights c.rights.bits mask)))

-- thinning to a mask in a family with modulus n and functions f
abbrev pub thin_to : Family → Capability → ℕ → Result Capability HolderRefusal
thin_to F c mask =
    unless (nat_lt (check_number c) F.modulus) CheckTooLarge (Ok (within_mask F.function c mask))
