-- The laws of the lowest number that passes a test.
use Rattle.std.proofs.Common.{◌≡◌, ℕ, zero, suc, ◌<◌, Bool, true, false, Some, None, Option, sym, refl, ap, subst, ⊎_elim, arith}
use Rattle.std.proofs.lemmas.Bool.{both_ways, cases_lt, cases_order}
use Rattle.table.specs.Lowest.{or_here, lowest, NoneBelow, IsLowest}

pub lowest_zero : (test : ℕ → Bool) → lowest test 0 ≡ None
unfolding lowest
lowest_zero test = refl

pub lowest_suc : (test : ℕ → Bool) (n : ℕ)
    → lowest test (suc n) ≡ or_here (lowest test n) (test n) n
unfolding lowest
lowest_suc test n = refl

-- one number more that does not pass
pub none_more : (test : ℕ → Bool) (n : ℕ) → NoneBelow test n → test n ≡ false
    → NoneBelow test (suc n)
none_more test n below here i h =
    ⊎_elim (λ l. below i l) (λ l. let e : n ≡ i = omega arith in
    subst (λ (k : ℕ). test k ≡ false) e here) (cases_lt i n)

step : (test : ℕ → Bool) (n : ℕ) (o : Option ℕ) (b : Bool) → test n ≡ b → IsLowest test n o
    → IsLowest test (suc n) (or_here o b n)
step test n (Some i) b e h = (omega (arith, h.0), h.1, h.2)
step test n None true e h = (omega arith, e, h)
step test n None false e h = none_more test n h e

-- what `lowest` gives is the lowest
pub is_lowest : (test : ℕ → Bool) (n : ℕ) → IsLowest test n (lowest test n)
is_lowest test zero = rw lowest_zero (λ i h. absurd (omega arith))
is_lowest test (suc n) =
    rw lowest_suc (step test n (lowest test n) (test n) refl (is_lowest test n))

-- no two are the lowest
same_lowest : (test : ℕ → Bool) (n : ℕ) (r s : Option ℕ) → IsLowest test n r → IsLowest test n s
    → r ≡ s
same_lowest test n None None h k = refl
same_lowest test n None (Some j) h k = absurd (both_ways (test j) (h j k.0) k.1)
same_lowest test n (Some i) None h k = absurd (both_ways (test i) (k i h.0) h.1)
same_lowest test n (Some i) (Some j) h k =
    ⊎_elim (λ e. ap Some e)
    (⊎_elim (λ l. absurd (both_ways (test i) (k.2 i l) h.1))
    (λ l. absurd (both_ways (test j) (h.2 j l) k.1)))
    (cases_order i j)

pub lowest_unique : (test : ℕ → Bool) (n : ℕ) (r : Option ℕ) → IsLowest test n r → r ≡ lowest test n
lowest_unique test n r h = same_lowest test n r (lowest test n) h (is_lowest test n)

-- the same by cases: to show what `lowest` gives, and to use it
pub lowest_some : (test : ℕ → Bool) (n i : ℕ) → i < n → test i ≡ true → NoneBelow test i
    → lowest test n ≡ Some i
lowest_some test n i h e below = sym (lowest_unique test n (Some i) (h, e, below))

pub lowest_none : (test : ℕ → Bool) (n : ℕ) → NoneBelow test n → lowest test n ≡ None
lowest_none test n below = sym (lowest_unique test n None below)

pub some_lowest : (test : ℕ → Bool) (n i : ℕ) → lowest test n ≡ Some i
    → (i < n) × (test i ≡ true) × NoneBelow test i
some_lowest test n i e = subst (λ (o : Option ℕ). IsLowest test n o) e (is_lowest test n)

pub none_lowest : (test : ℕ → Bool) (n : ℕ) → lowest test n ≡ None → NoneBelow test n
none_lowest test n e = subst (λ (o : Option ℕ). IsLowest test n o) e (is_lowest test n)
