-- Masking leads to no larger number, and two masks commute.
use Rattle.std.specs.Prelude.{◌≡◌, ℕ, ◌-◌, ◌^◌, ◌<◌}
use Rattle.std.specs.Int.Bits.{bit_and}
use Rattle.std.proofs.lemmas.Nat.{and_assoc, and_comm, and_le_l}
use Rattle.std.proofs.Common.{arith, sym}

pub masked_below : (k v : ℕ) → v < 512 → bit_and v (255 - 2 ^ k) < 512
masked_below k v h = let e : _ = and_le_l v (255 - 2 ^ k) in omega arith

pub masks_commute : (j k v : ℕ)
    → bit_and (bit_and v (255 - 2 ^ k)) (255 - 2 ^ j)
    ≡ bit_and (bit_and v (255 - 2 ^ j)) (255 - 2 ^ k)
masks_commute j k v =
    rw (and_assoc (255 - 2 ^ j) v (255 - 2 ^ k))
    (rw (and_comm (255 - 2 ^ k) (255 - 2 ^ j)) (sym (and_assoc (255 - 2 ^ k) v (255 - 2 ^ j))))
