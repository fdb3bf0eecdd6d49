-- The laws of thinning, for every family of commuting functions.
use Rattle.std.proofs.Common.{◌≡◌, ℕ, zero, suc, ◌<◌, ◌≤◌, Bool, true, false, cond, ◌||◌, eqb, ltb, sym, refl, ap, ◌∙◌, arith}
use Rattle.std.proofs.lemmas.Bool.{lt-ltb, cond-true}
use Rattle.std.proofs.lemmas.Bool.Decides.{nat_tests}
use Rattle.family.specs.Rights.{no_rights, union}
use Rattle.family.specs.Commuting.{Family, IsCommuting, apply}
use Rattle.family.specs.Thin.{thin_once, thin_below, thin, AreDisjoint, ThinLaws}

-- one right more
pub thin_none : (f : ℕ → ℕ → ℕ) (M : ℕ → Bool) (v : ℕ) → thin_below f M 0 v ≡ v
unfolding thin_below
thin_none f M v = refl

pub thin_more : (f : ℕ → ℕ → ℕ) (M : ℕ → Bool) (k v : ℕ)
    → thin_below f M (suc k) v ≡ thin_once f M k (thin_below f M k v)
unfolding thin_below
thin_more f M k v = refl

-- sets with the same rights below i thin alike as far as i
pub below_like : (f : ℕ → ℕ → ℕ) (M M' : ℕ → Bool) (v i : ℕ) → ((k : ℕ) → k < i → M k ≡ M' k)
    → thin_below f M i v ≡ thin_below f M' i v
below_like f M M' v zero e = thin_none f M v ∙ sym (thin_none f M' v)
below_like f M M' v (suc i) e =
    thin_more f M i v
    ∙ ap (λ b. cond b (f i (thin_below f M i v)) (thin_below f M i v)) (e i (omega arith))
    ∙ ap (thin_once f M' i) (below_like f M M' v i (λ k h. e k (omega arith)))
    ∙ sym (thin_more f M' i v)

pub thin_like : (f : ℕ → ℕ → ℕ) (M M' : ℕ → Bool) (v : ℕ) → ((k : ℕ) → k < 8 → M k ≡ M' k)
    → thin f v M ≡ thin f v M'
thin_like f M M' v e = below_like f M M' v 8 e

-- the set without any right
below_empty : (f : ℕ → ℕ → ℕ) (v i : ℕ) → thin_below f no_rights i v ≡ v
below_empty f v zero = thin_none f no_rights v
below_empty f v (suc i) = thin_more f no_rights i v ∙ below_empty f v i

-- a set of one right
below_single : (f : ℕ → ℕ → ℕ) (v k i : ℕ)
    → thin_below f (λ j. eqb j k) i v ≡ cond (ltb k i) (f k v) v
below_single f v k zero = thin_none f (λ j. eqb j k) v ∙ grind (arith, nat_tests)
below_single f v k (suc i) =
    thin_more f (λ j. eqb j k) i v
    ∙ ap (thin_once f (λ j. eqb j k) i) (below_single f v k i)
    ∙ grind (arith, nat_tests)

pub thin_empty : (f : ℕ → ℕ → ℕ) (v : ℕ) → thin f v no_rights ≡ v
thin_empty f v = below_empty f v 8

pub thin_single : (f : ℕ → ℕ → ℕ) (v k : ℕ) → k < 8 → thin f v (λ j. eqb j k) ≡ f k v
thin_single f v k p = below_single f v k 8 ∙ cond-true (ltb k 8) (f k v) v (lt-ltb k 8 p)

module _ (F : Family) (family : IsCommuting F) where
  once_below : (M : ℕ → Bool) (k v : ℕ) → k < 8 → v < F.modulus
      → thin_once F.function M k v < F.modulus
  once_below M k v p q =
      elim (M k) as (λ b. cond b (F.function k v) v < F.modulus)
      [ true ↦ family.within k v p q | false ↦ q ]

  below_below : (M : ℕ → Bool) (v i : ℕ) → i ≤ 8 → v < F.modulus
      → thin_below F.function M i v < F.modulus
  below_below M v zero p q = rw thin_none q
  below_below M v (suc i) p q =
      rw thin_more (once_below M i (thin_below F.function M i v) p
      (below_below M v i (omega arith) q))

  -- any two steps commute, whatever the sets
  once_once : (M M' : ℕ → Bool) (j k v : ℕ) → j < 8 → k < 8 → v < F.modulus
      → thin_once F.function M j (thin_once F.function M' k v)
      ≡ thin_once F.function M' k (thin_once F.function M j v)
  once_once M M' j k v p q h = cases (M j) (M' k)
    where
      cases : (b b' : Bool) → cond b (F.function j (cond b' (F.function k v) v))
          (cond b' (F.function k v) v)
          ≡ cond b' (F.function k (cond b (F.function j v) v)) (cond b (F.function j v) v)
      cases true true = family.commutes j k v p q h
      cases true false = refl
      cases false true = refl
      cases false false = refl

  once_past : (M M' : ℕ → Bool) (k v i : ℕ) → k < 8 → i ≤ 8 → v < F.modulus
      → thin_below F.function M i (thin_once F.function M' k v)
      ≡ thin_once F.function M' k (thin_below F.function M i v)
  once_past M M' k v zero p q h =
      thin_none F.function M (thin_once F.function M' k v)
      ∙ ap (thin_once F.function M' k) (sym (thin_none F.function M v))
  once_past M M' k v (suc i) p q h =
      thin_more F.function M i (thin_once F.function M' k v)
      ∙ ap (thin_once F.function M i) (once_past M M' k v i p (omega arith) h)
      ∙ once_once M M' i k (thin_below F.function M i v) q p (below_below M v i (omega arith) h)
      ∙ ap (thin_once F.function M' k) (sym (thin_more F.function M i v))

  -- the steps of two sets at one right, of which it is in at most one, are the step of their union
  once_union : (M M' : ℕ → Bool) (k v : ℕ) → (M k ≡ true → M' k ≡ false)
      → thin_once F.function M' k (thin_once F.function M k v)
      ≡ thin_once F.function (union M M') k v
  once_union M M' k v apart = cases (M k) (M' k) apart
    where
      cases : (b b' : Bool) → (b ≡ true → b' ≡ false)
          → cond b' (F.function k (cond b (F.function k v) v)) (cond b (F.function k v) v)
          ≡ cond (b || b') (F.function k v) v
      cases true true d = ap (λ x. cond x (F.function k (F.function k v)) (F.function k v)) (d refl)
      cases true false d = refl
      cases false true d = refl
      cases false false d = refl

  below_union : (M M' : ℕ → Bool) (v i : ℕ) → i ≤ 8 → v < F.modulus → AreDisjoint M M'
      → thin_below F.function M' i (thin_below F.function M i v)
      ≡ thin_below F.function (union M M') i v
  below_union M M' v zero p h d =
      thin_none F.function M' (thin_below F.function M 0 v) ∙ thin_none F.function M v
      ∙ sym (thin_none F.function (union M M') v)
  below_union M M' v (suc i) p h d =
      ap (thin_below F.function M' (suc i)) (thin_more F.function M i v)
      ∙ thin_more F.function M' i (thin_once F.function M i (thin_below F.function M i v))
      ∙ ap (thin_once F.function M' i)
      (once_past M' M i (thin_below F.function M i v) i p (omega arith)
      (below_below M v i (omega arith) h))
      ∙ ap (λ x. thin_once F.function M' i (thin_once F.function M i x))
      (below_union M M' v i (omega arith) h d)
      ∙ once_union M M' i (thin_below F.function (union M M') i v) (d i p)
      ∙ sym (thin_more F.function (union M M') i v)

  -- in either order
  below_order : (M M' : ℕ → Bool) (v i : ℕ) → i ≤ 8 → v < F.modulus
      → thin_below F.function M' 8 (thin_below F.function M i v)
      ≡ thin_below F.function M i (thin_below F.function M' 8 v)
  below_order M M' v zero p h =
      ap (thin_below F.function M' 8) (thin_none F.function M v)
      ∙ sym (thin_none F.function M (thin_below F.function M' 8 v))
  below_order M M' v (suc i) p h =
      ap (thin_below F.function M' 8) (thin_more F.function M i v)
      ∙ once_past M' M i (thin_below F.function M i v) 8 p (omega arith)
      (below_below M v i (omega arith) h)
      ∙ ap (thin_once F.function M i) (below_order M M' v i (omega arith) h)
      ∙ sym (thin_more F.function M i (thin_below F.function M' 8 v))

  pub thin_laws : ThinLaws F
  thin_laws = record {
    stays_below = λ v M h. below_below M v 8 (omega arith) h;
    by_none = thin_empty F.function;
    by_both = λ v M M' h d. below_union M M' v 8 (omega arith) h d;
    either_order = λ v M M' h. below_order M M' v 8 (omega arith) h;
  }

  -- asked for numbers below n, a family answers with its functions: so thinning by its answers is
  -- thinning by them
  below_asked : (M : ℕ → Bool) (v i : ℕ) → i ≤ 8 → v < F.modulus
      → thin_below (apply F) M i v ≡ thin_below F.function M i v
  below_asked M v zero p h = thin_none (apply F) M v ∙ sym (thin_none F.function M v)
  below_asked M v (suc i) p h =
      thin_more (apply F) M i v
      ∙ ap (thin_once (apply F) M i) (below_asked M v i (omega arith) h)
      ∙ ap (λ x. cond (M i) x (thin_below F.function M i v))
      (answered i (thin_below F.function M i v) p (below_below M v i (omega arith) h))
      ∙ sym (thin_more F.function M i v)
    where
      answered : (k w : ℕ) → k < 8 → w < F.modulus → apply F k w ≡ F.function k w
      answered k w q r = grind (arith, nat_tests)

  pub thin_asked : (v : ℕ) (M : ℕ → Bool) → v < F.modulus → thin (apply F) v M ≡ thin F.function v M
  thin_asked v M h = below_asked M v 8 (omega arith) h

-- asked for a number that is not below n, a family answers with that number, and so does thinning
-- by its answers
below_unasked : (F : Family) (M : ℕ → Bool) (v i : ℕ) → F.modulus ≤ v
    → thin_below (apply F) M i v ≡ v
below_unasked F M v zero h = thin_none (apply F) M v
below_unasked F M v (suc i) h =
    thin_more (apply F) M i v ∙ ap (thin_once (apply F) M i) (below_unasked F M v i h) ∙ stays (M i)
  where
    stays : (b : Bool) → cond b (apply F i v) v ≡ v
    stays true = grind (arith, nat_tests)
    stays false = refl

pub thin_unasked : (F : Family) (M : ℕ → Bool) (v : ℕ) → F.modulus ≤ v → thin (apply F) v M ≡ v
thin_unasked F M v h = below_unasked F M v 8 h
