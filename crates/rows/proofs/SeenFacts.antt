-- What the mask of all seen columns holds.
use Rattle.std.proofs.Common.{◌≡◌, ℕ, zero, suc, ◌+◌, ◌*◌, ◌/◌, ◌%◌, ◌^◌, ◌<◌, ◌≤◌, max, Bool, true, false, cond, ◌&&◌, ◌||◌, eqb, refl, sym, ap, ◌∙◌, arith}
use Rattle.std.specs.Int.Bits.{bit_or, or_step}
use Rattle.std.proofs.lemmas.Nat.{or_shr, or_of_8}
use Rattle.std.proofs.lemmas.Bool.{and_from, or_left, or_right, false≢true}
use Rattle.std.proofs.Math.Nat.{zero-div}
use Rattle.std.proofs.lemmas.Bool.Decides.{nat_tests}
use Rattle.family.specs.Rights.{has_right}
use Rattle.holder.proofs.BitFacts.{same_byte}
use Rattle.memory.specs.declared.row.Masks.{Masks}
use Rattle.rows.specs.Seen.{seen_column, bit, is_seen, byte_of, seen_mask, IsSeenMask}

-- a right is in either set
pub has_or : (a b k : ℕ) → has_right (bit_or a b) k ≡ (has_right a k || has_right b k)
has_or a b k = ap (λ x. eqb (x % 2) 1) (or_shr a b k) ∙ lowest (a / 2 ^ k) (b / 2 ^ k)
  where
    lowest : (x y : ℕ) → eqb (bit_or x y % 2) 1 ≡ (eqb (x % 2) 1 || eqb (y % 2) 1)
    lowest x y = let e : bit_or x y ≡ bit_or (x / 2) (y / 2) * 2 + max (x % 2) (y % 2) =
        or_step x y in grind (arith, nat_tests)

-- a column that is not seen adds no right
pub has_column : (rights right bits k : ℕ)
    → has_right (seen_column rights right bits) k ≡ (has_right rights right && has_right bits k)
has_column rights right bits k = cases (has_right rights right)
  where
    cases : (b : Bool) → has_right (cond b bits 0) k ≡ (b && has_right bits k)
    cases true = refl
    cases false = ap (λ x. eqb (x % 2) 1) (zero-div (2 ^ k))

-- a bit is at most 1, and says whether it is there
bit_bound : (b : Bool) → bit b ≤ 1
bit_bound true = omega arith
bit_bound false = omega arith

bit_there : (b : Bool) (n : ℕ) → n ≡ bit b → eqb n 1 ≡ b
bit_there true n e = ap (λ x. eqb x 1) e
bit_there false n e = ap (λ x. eqb x 1) e

-- something holds of each right
each_of_eight : (P : ℕ → Type 0) → P 0 → P 1 → P 2 → P 3 → P 4 → P 5 → P 6 → P 7 → (k : ℕ) → k < 8
    → P k
each_of_eight P p0 p1 p2 p3 p4 p5 p6 p7 zero h = p0
each_of_eight P p0 p1 p2 p3 p4 p5 p6 p7 (suc zero) h = p1
each_of_eight P p0 p1 p2 p3 p4 p5 p6 p7 (suc (suc zero)) h = p2
each_of_eight P p0 p1 p2 p3 p4 p5 p6 p7 (suc (suc (suc zero))) h = p3
each_of_eight P p0 p1 p2 p3 p4 p5 p6 p7 (suc (suc (suc (suc zero)))) h = p4
each_of_eight P p0 p1 p2 p3 p4 p5 p6 p7 (suc (suc (suc (suc (suc zero))))) h = p5
each_of_eight P p0 p1 p2 p3 p4 p5 p6 p7 (suc (suc (suc (suc (suc (suc zero)))))) h = p6
each_of_eight P p0 p1 p2 p3 p4 p5 p6 p7 (suc (suc (suc (suc (suc (suc (suc zero))))))) h = p7
each_of_eight P p0 p1 p2 p3 p4 p5 p6 p7 (suc (suc (suc (suc (suc (suc (suc (suc k)))))))) h =
    absurd (omega arith)

-- the byte with some rights is a byte, and has those of the eight
module _ (M : ℕ → Bool) where
  -- each of its bits is at most 1
  bits : (bit (M 0) ≤ 1) × (bit (M 1) ≤ 1) × (bit (M 2) ≤ 1) × (bit (M 3) ≤ 1) × (bit (M 4) ≤ 1)
      × (bit (M 5) ≤ 1) × (bit (M 6) ≤ 1) × (bit (M 7) ≤ 1)
  bits = (
    bit_bound (M 0),
    bit_bound (M 1),
    bit_bound (M 2),
    bit_bound (M 3),
    bit_bound (M 4),
    bit_bound (M 5),
    bit_bound (M 6),
    bit_bound (M 7),
  )

  pub byte_bound : byte_of M < 256
  unfolding byte_of
  byte_bound = omega (arith, bits)

  pub has_byte : (k : ℕ) → k < 8 → has_right (byte_of M) k ≡ M k
  unfolding byte_of
  has_byte =
      each_of_eight (λ k. has_right (byte_of M) k ≡ M k)
      (bit_there (M 0) _ (omega (arith, bits)))
      (bit_there (M 1) _ (omega (arith, bits)))
      (bit_there (M 2) _ (omega (arith, bits)))
      (bit_there (M 3) _ (omega (arith, bits)))
      (bit_there (M 4) _ (omega (arith, bits)))
      (bit_there (M 5) _ (omega (arith, bits)))
      (bit_there (M 6) _ (omega (arith, bits)))
      (bit_there (M 7) _ (omega (arith, bits)))

-- no more than a byte, whatever the masks hold
pub seen_bound : (rights : ℕ) (m : Masks) → (seen_mask rights m).bits < 256
seen_bound rights m = byte_bound (is_seen rights m)

module _ (rights : ℕ) (m : Masks) where
  -- a right is in it exactly where some seen column has it
  pub has_seen : (k : ℕ) → k < 8 → has_right (seen_mask rights m).bits k ≡ is_seen rights m k
  has_seen = has_byte (is_seen rights m)

  -- a byte with those rights is it
  pub from_words : (b : ℕ) → b < 256 → IsSeenMask rights m b
      → record { bits = b } ≡ seen_mask rights m
  from_words b h w =
      ap (λ x. record {
        bits =
            x;
      }) (same_byte b (seen_mask rights m).bits h (seen_bound rights m)
      (λ k p. w k p ∙ sym (has_seen k p)))

  -- the three columns joined
  pub joined : (a b c : ℕ) → a ≡ seen_column rights 0 m.works.bits
      → b ≡ seen_column rights 1 m.inspector.bits
      → c ≡ seen_column rights 2 m.buyer.bits → IsSeenMask rights m (bit_or (bit_or a b) c)
  joined a b c e f g k h =
      has_or (bit_or a b) c k ∙ ap (λ x. x || has_right c k) (has_or a b k)
      ∙ regroup (has_right a k) (has_right b k) (has_right c k)
      ∙ of_columns a b c e f g k
    where
      regroup : (x y z : Bool) → ((x || y) || z) ≡ (x || (y || z))
      regroup true y z = refl
      regroup false y z = refl

      of_columns : (a b c : ℕ) → a ≡ seen_column rights 0 m.works.bits
          → b ≡ seen_column rights 1 m.inspector.bits → c ≡ seen_column rights 2 m.buyer.bits
          → (k : ℕ)
          → (has_right a k || (has_right b k || has_right c k)) ≡ is_seen rights m k
      of_columns a b c e f g k =
          ap (λ x. x || (has_right b k || has_right c k))
          (ap (λ n. has_right n k) e ∙ has_column rights 0 m.works.bits k)
          ∙ ap (λ x. (has_right rights 0 && has_right m.works.bits k) || (x || has_right c k))
          (ap (λ n. has_right n k) f ∙ has_column rights 1 m.inspector.bits k)
          ∙ ap (λ x. (has_right rights 0 && has_right m.works.bits k)
          || ((has_right rights 1 && has_right m.inspector.bits k) || x))
          (ap (λ n. has_right n k) g ∙ has_column rights 2 m.buyer.bits k)

-- and they are a byte
pub joined_byte : (a b c : ℕ) → a < 256 → b < 256 → c < 256 → bit_or (bit_or a b) c < 256
joined_byte a b c p q r = or_of_8 (bit_or a b) c (or_of_8 a b p q) r

-- more rights see no less
pub seen_more : (r r' : ℕ) (m : Masks)
    → ((k : ℕ) → k < 8 → has_right r k ≡ true → has_right r' k ≡ true)
    → (k : ℕ) → k < 8 → has_right (seen_mask r m).bits k ≡ true
    → has_right (seen_mask r' m).bits k ≡ true
seen_more r r' m more k h e =
    has_seen r' m k h
    ∙ wider (has_right r 0) (has_right r 1) (has_right r 2) (has_right r' 0) (has_right r' 1)
    (has_right r' 2) (has_right m.works.bits k)
    (has_right m.inspector.bits k) (has_right m.buyer.bits k)
    (more 0 (omega arith)) (more 1 (omega arith)) (more 2 (omega arith))
    (sym (has_seen r m k h) ∙ e)
  where
    kept : (a a' b : Bool) → (a ≡ true → a' ≡ true) → (a && b) ≡ true → (a' && b) ≡ true
    kept true a' b f e = and_from a' b (f refl) e
    kept false a' b f e = absurd (false≢true e)

    either : (x y x' y' : Bool) → (x ≡ true → x' ≡ true) → (y ≡ true → y' ≡ true) → (x || y) ≡ true
        → (x' || y') ≡ true
    either true y x' y' f g e = or_left x' y' (f refl)
    either false y x' y' f g e = or_right x' y' (g e)

    wider : (a b c a' b' c' x y z : Bool) → (a ≡ true → a' ≡ true) → (b ≡ true → b' ≡ true)
        → (c ≡ true → c' ≡ true)
        → ((a && x) || ((b && y) || (c && z))) ≡ true
        → ((a' && x) || ((b' && y) || (c' && z))) ≡ true
    wider a b c a' b' c' x y z f g h =
        either (a && x) ((b && y) || (c && z)) (a' && x) ((b' && y) || (c' && z)) (kept a a' x f)
        (either (b && y) (c && z) (b' && y) (c' && z) (kept b b' y g) (kept c c' z h))
