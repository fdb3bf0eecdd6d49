-- Sets of rights as bytes.
use Rattle.std.proofs.Common.{◌≡◌, ℕ, zero, suc, ◌+◌, ◌-◌, ◌*◌, ◌/◌, ◌%◌, ◌^◌, ◌<◌, min, Bool, cond, not, ◌&&◌, eqb, sym, refl, ap, ◌∙◌, arith}
use lib.Bits.{bit_and, and_step, and_shr, and_le_l}
use lib.Pow.{pow-lt}
use Rattle.std.proofs.lemmas.Bool.{eqb-true}
use Rattle.std.proofs.lemmas.Bool.Decides.{nat_tests}
use Rattle.family.specs.Rights.{has_right}
use Rattle.family.proofs.Tables.{all_below, at_each, agree, agreed}
use Rattle.family.proofs.FitFacts.{alone}
use Rattle.holder.specs.Dropping.{all_rights_but}

-- a right is in both sets
pub has_and : (a b k : ℕ) → has_right (bit_and a b) k ≡ (has_right a k && has_right b k)
has_and a b k = ap (λ x. eqb (x % 2) 1) (and_shr a b k) ∙ lowest (a / 2 ^ k) (b / 2 ^ k)
  where
    lowest : (x y : ℕ) → eqb (bit_and x y % 2) 1 ≡ (eqb (x % 2) 1 && eqb (y % 2) 1)
    lowest x y = let e : bit_and x y ≡ bit_and (x / 2) (y / 2) * 2 + min (x % 2) (y % 2) =
        and_step x y in grind (arith, nat_tests)

-- a right is in the complement
pub has_not : (m k : ℕ) → m < 256 → k < 8 → has_right (255 - m) k ≡ not (has_right m k)
has_not m k p q =
    agreed (has_right (255 - m) k) (not (has_right m k))
    (at_each (λ j. agree (has_right (255 - m) j) (not (has_right m j))) 8
    (at_each (λ a. all_below (λ j. agree (has_right (255 - a) j) (not (has_right a j))) 8) 256 refl
    m p) k
    q)

pub has_all_but : (k j : ℕ) → k < 8 → j < 8 → has_right (all_rights_but k) j ≡ not (eqb j k)
has_all_but k j p q = has_not (2 ^ k) j (pow-lt {i = k} {j = 8} p) q ∙ ap not (alone k j p q)

-- a byte is the sum of its bits, so bytes with the same rights are equal
abbrev sum_of : (ℕ → Bool) → ℕ → ℕ
sum_of M zero = 0
sum_of M (suc k) = sum_of M k + cond (M k) (2 ^ k) 0

sum_like : (M M' : ℕ → Bool) (i : ℕ) → ((k : ℕ) → k < i → M k ≡ M' k) → sum_of M i ≡ sum_of M' i
sum_like M M' zero e = refl
sum_like M M' (suc i) e =
    ap (λ b. sum_of M i + cond b (2 ^ i) 0) (e i (omega arith))
    ∙ ap (λ x. x + cond (M' i) (2 ^ i) 0) (sum_like M M' i (λ k h. e k (omega arith)))

summed : (b : ℕ) → b < 256 → sum_of (has_right b) 8 ≡ b
summed b h =
    eqb-true (sum_of (has_right b) 8) b (at_each (λ a. eqb (sum_of (has_right a) 8) a) 256 refl b h)

pub same_byte : (a b : ℕ) → a < 256 → b < 256 → ((k : ℕ) → k < 8 → has_right a k ≡ has_right b k)
    → a ≡ b
same_byte a b p q e = sym (summed a p) ∙ sum_like (has_right a) (has_right b) 8 e ∙ summed b q

pub and_byte : (a b : ℕ) → a < 256 → bit_and a b < 256
and_byte a b h = omega (arith, and_le_l a b)
