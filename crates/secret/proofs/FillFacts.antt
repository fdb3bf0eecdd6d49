-- Filling the numbers of all sets of rights, one right after the other, the greatest first.
use Rattle.std.proofs.Common.{◌≡◌, ℕ, suc, ◌+◌, ◌*◌, ◌/◌, ◌%◌, ◌^◌, ◌<◌, ◌≢◌, Bool, true, false, not, ◌||◌, eqb, List, length, get_or, set, sym, refl, ap, ◌∙◌, inl, inr, ◌⊎◌, arith, pow-suc, get_or-set_same}
use Rattle.std.proofs.Math.Nat.{eq_of_mul-eq-mul_right}
use Rattle.std.proofs.lemmas.List.{get_or-set_other}
use Rattle.std.proofs.lemmas.Bool.{cases_lt, false≢true, ne_eqb, eqb-true, not-true}
use Rattle.family.specs.Commuting.{Family, IsCommuting}
use Rattle.family.specs.Rights.{has_right, no_rights, union}
use Rattle.family.specs.Thin.{AreDisjoint}
use Rattle.family.proofs.Tables.{all_below, at_each, agree, agreed}
use Rattle.family.proofs.FitFacts.{nothing}
use Rattle.family.proofs.ThinFacts.{thin_laws, thin_like, thin_empty, thin_single}
use Rattle.secret.specs.Fitness.{thinned_number}

-- of two sets, one with right k and the other without, the numbers stand at two places
with_without : (p i j : ℕ) → 0 < p → 2 * j * p ≢ (2 * i + 1) * p
with_without p i j h e = let same : 2 * j ≡ 2 * i + 1 =
    eq_of_mul-eq-mul_right p h (2 * j) (2 * i + 1) e in omega arith

-- and so they do of two sets with it
both_with : (p i j : ℕ) → 0 < p → j < i → (2 * j + 1) * p ≢ (2 * i + 1) * p
both_with p i j h less e = let same : 2 * j + 1 ≡ 2 * i + 1 =
    eq_of_mul-eq-mul_right p h (2 * j + 1) (2 * i + 1) e in omega arith

-- one set more is given right k
module _ (f : ℕ → ℕ) (p i y : ℕ) (xs zs : List ℕ) (positive : 0 < p)
    (room : (2 * i + 1) * p < length xs)
    (even : (j : ℕ) → get_or xs (2 * j * p) 0 ≡ get_or zs (2 * j * p) 0)
    (odd : (j : ℕ) → j < i → get_or xs ((2 * j + 1) * p) 0 ≡ f (get_or zs (2 * j * p) 0))
    (given : y ≡ f (get_or xs (2 * i * p) 0)) where
  pub still_without : (j : ℕ)
      → get_or (set xs ((2 * i + 1) * p) y) (2 * j * p) 0 ≡ get_or zs (2 * j * p) 0
  still_without j =
      get_or-set_other xs ((2 * i + 1) * p) (2 * j * p) y 0 (with_without p i j positive) ∙ even j

  pub one_given : (j : ℕ) → j < i + 1
      → get_or (set xs ((2 * i + 1) * p) y) ((2 * j + 1) * p) 0 ≡ f (get_or zs (2 * j * p) 0)
  one_given j h = elim (cases_lt j i) [
    | inl less ↦ get_or-set_other xs ((2 * i + 1) * p) ((2 * j + 1) * p) y 0
        (both_with p i j positive less) ∙ odd j less
    | inr more ↦
        let e : j ≡ i = omega arith in
        ap (λ m. get_or (set xs ((2 * i + 1) * p) y) ((2 * m + 1) * p) 0) e
        ∙ get_or-set_same xs ((2 * i + 1) * p) y 0 room
        ∙ given ∙ ap f (even i) ∙ ap (λ m. f (get_or zs (2 * m * p) 0)) (sym e)
  ]

-- the set without any right, which comes first
pub empty_first : (f : ℕ → ℕ → ℕ) (s : ℕ) (xs : List ℕ) (i : ℕ) → 0 < length xs → i ≡ 0
    → get_or (set xs 0 s) i 0 ≡ thinned_number f s i
empty_first f s xs i h e =
    rw e (get_or-set_same xs 0 s 0 h
    ∙ sym (thin_like f (has_right 0) no_rights s (λ j q. sym (nothing j)) ∙ thin_empty f s))

-- the set of number (2i + 1)·2^k has the rights of that of number 2i·2^k and right k besides, which
-- that one has not
abbrev given_test : ℕ → ℕ → ℕ → Bool
given_test k i j =
    agree (has_right ((2 * i + 1) * 2 ^ k) j) (has_right (2 * i * 2 ^ k) j || eqb j k)

abbrev without_test : ℕ → ℕ → Bool
without_test k i = not (has_right (2 * i * 2 ^ k) k)

all_given : all_below (λ k. all_below (λ i. all_below (given_test k i) 8) (128 / 2 ^ k)) 8 ≡ true
all_given = refl

all_without : all_below (λ k. all_below (without_test k) (128 / 2 ^ k)) 8 ≡ true
all_without = refl

module _ (F : Family) (family : IsCommuting F) (s k i : ℕ) (below : s < F.modulus) (right : k < 8)
    (small : i < 128 / 2 ^ k) where
  abbrev more : ℕ → Bool
  more = has_right (2 * i * 2 ^ k)

  given : (j : ℕ) → j < 8 → has_right ((2 * i + 1) * 2 ^ k) j ≡ union more (λ j. eqb j k) j
  given j h =
      agreed (has_right ((2 * i + 1) * 2 ^ k) j) (more j || eqb j k)
      (at_each (given_test k i) 8
      (at_each (λ i. all_below (given_test k i) 8) (128 / 2 ^ k)
      (at_each (λ k. all_below (λ i. all_below (given_test k i) 8) (128 / 2 ^ k)) 8
      all_given k right) i small) j h)

  apart : AreDisjoint more (λ j. eqb j k)
  apart j h e = ne_eqb j k (λ same. false≢true (sym without ∙ ap more (sym same) ∙ e))
    where
      without : more k ≡ false
      without =
          not-true (more k) (at_each (without_test k) (128 / 2 ^ k)
          (at_each (λ k. all_below (without_test k) (128 / 2 ^ k)) 8 all_without k right) i
          small)

  -- a set without right k, and with it
  with_right : thinned_number F.function s ((2 * i + 1) * 2 ^ k)
      ≡ F.function k (thinned_number F.function s (2 * i * 2 ^ k))
  with_right =
      thin_like F.function (has_right ((2 * i + 1) * 2 ^ k)) (union more (λ j. eqb j k)) s given
      ∙ sym ((thin_laws F family).by_both s more (λ j. eqb j k) below apart)
      ∙ thin_single F.function (thinned_number F.function s (2 * i * 2 ^ k)) k right

-- twice as many sets have no right below k as have none below k + 1, where k is a right
abbrev twice_test : ℕ → Bool
twice_test k = eqb (256 / 2 ^ k) (2 * (128 / 2 ^ k))

all_twice : all_below twice_test 8 ≡ true
all_twice = refl

abbrev halves_test : ℕ → Bool
halves_test k = eqb (256 / 2 ^ suc k) (128 / 2 ^ k)

all_halves : all_below halves_test 8 ≡ true
all_halves = refl

-- one right more, k after all above it: where the sets without a right below k + 1 were filled, all
-- that have none below k are
module _ (F : Family) (family : IsCommuting F) (s k above : ℕ) (below : s < F.modulus)
    (right : k < 8)
    (next : above ≡ suc k)
    (xs ys : List ℕ) (filled : (i : ℕ) → i < 256 / 2 ^ above
    → get_or xs (i * 2 ^ above) 0 ≡ thinned_number F.function s (i * 2 ^ above)) where
  even : (i : ℕ) → i < 128 / 2 ^ k
      → get_or xs (2 * i * 2 ^ k) 0 ≡ thinned_number F.function s (2 * i * 2 ^ k)
  even i h =
      ap (λ m. get_or xs m 0) (sym place) ∙ filled i within ∙ ap (thinned_number F.function s) place
    where
      place : i * 2 ^ above ≡ 2 * i * 2 ^ k
      place = let double : 2 ^ above ≡ 2 ^ k * 2 = ap (λ x. 2 ^ x) next ∙ pow-suc 2 k in
          ap (λ x. i * x) double ∙ omega arith

      within : i < 256 / 2 ^ above
      within =
          let halves : 256 / 2 ^ above ≡ 128 / 2 ^ k =
          ap (λ x. 256 / 2 ^ x) next
          ∙ eqb-true (256 / 2 ^ suc k) (128 / 2 ^ k)
          (at_each halves_test 8 all_halves k right) in
          omega arith

  pub numbers_below : (i : ℕ) → i < 128 / 2 ^ k → get_or xs (2 * i * 2 ^ k) 0 < F.modulus
  numbers_below i h =
      rw (even i h) ((thin_laws F family).stays_below s (has_right (2 * i * 2 ^ k)) below)

  module _ (kept : (i : ℕ) → i < 128 / 2 ^ k
      → get_or ys (2 * i * 2 ^ k) 0 ≡ get_or xs (2 * i * 2 ^ k) 0)
      (added : (i : ℕ) → i < 128 / 2 ^ k
      → get_or ys ((2 * i + 1) * 2 ^ k) 0 ≡ F.function k (get_or xs (2 * i * 2 ^ k) 0)) where
    -- a set of number m·2^k: with right k where m is odd
    filled_to : (m i : ℕ) → i < 128 / 2 ^ k → (m ≡ 2 * i) ⊎ (m ≡ 2 * i + 1)
        → get_or ys (m * 2 ^ k) 0 ≡ thinned_number F.function s (m * 2 ^ k)
    filled_to m i h (inl e) = rw e (kept i h ∙ even i h)
    filled_to m i h (inr e) =
        rw e (added i h ∙ ap (F.function k) (even i h)
        ∙ sym (with_right F family s k i below right h))

    pub filled_more : (m : ℕ) → m < 256 / 2 ^ k
        → get_or ys (m * 2 ^ k) 0 ≡ thinned_number F.function s (m * 2 ^ k)
    filled_more m h =
        let twice : 256 / 2 ^ k ≡ 2 * (128 / 2 ^ k) =
        eqb-true (256 / 2 ^ k) (2 * (128 / 2 ^ k)) (at_each twice_test 8 all_twice k right) in
        filled_to m (m / 2) (omega (arith, twice))
        (elim (cases_lt (m % 2) 1) [ inl p ↦ inl (omega arith) | inr p ↦ inr (omega arith) ])
