-- The columns of masks that rights let see, as one mask.
use Rattle.std.specs.Prelude.{◌≡◌, ℕ, ◌+◌, ◌*◌, ◌<◌, Bool, if◌then◌else◌, ◌&&◌, ◌||◌}
use Rattle.family.specs.Rights.{has_right}
use Rattle.holder.specs.declared.capability.Mask.{Mask}
use Rattle.memory.specs.declared.row.Masks.{Masks}

-- the bits of a column where a right lets it be seen, or else none
abbrev pub seen_column : ℕ → ℕ → ℕ → ℕ
seen_column rights right bits = if has_right rights right then bits else 0

-- right k is in a seen column: right 0 sees that of the works, right 1 the inspector's, right 2 the
-- buyer's
abbrev pub is_seen : ℕ → Masks → ℕ → Bool
is_seen rights masks k =
    (has_right rights 0 && has_right masks.works.bits k)
    || ((has_right rights 1 && has_right masks.inspector.bits k)
    || (has_right rights 2 && has_right masks.buyer.bits k))

-- 1 or 0
abbrev pub bit : Bool → ℕ
bit b = if b then 1 else 0

-- the byte with these rights of the eight
unfoldable pub byte_of : (ℕ → Bool) → ℕ
byte_of M =
    bit (M 0) + 2 * bit (M 1) + 4 * bit (M 2) + 8 * bit (M 3) + 16 * bit (M 4) + 32 * bit (M 5)
    + 64 * bit (M 6) + 128 * bit (M 7)

-- the rights of all seen columns
abbrev pub seen_mask : ℕ → Masks → Mask
seen_mask rights masks = record { bits = byte_of (is_seen rights masks) }

-- the same in words: right k is seen exactly where some seen column has it
abbrev pub IsSeenMask : ℕ → Masks → ℕ → Type 0
IsSeenMask rights masks bits = (k : ℕ) → k < 8 → has_right bits k ≡ is_seen rights masks k
