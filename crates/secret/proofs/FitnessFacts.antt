-- The test of fitness decides fitness.
use Rattle.std.proofs.Common.{◌≡◌, ℕ, ◌<◌, Bool, true, false, not, eqb, ltb, List, get_or, Decides, MatchBool, sym, refl, ◌∙◌, inl, inr, arith}
use Rattle.std.proofs.lemmas.Bool.{false≢true, cases_order}
use Rattle.std.proofs.lemmas.Bool.Decides.{Decides-below_and, Decides-not, Decides-eqb, Decides-and, Decides-ltb, Decides-like, same_from_decides}
use Rattle.family.specs.Commuting.{Family}
use Rattle.family.specs.Fit.{IsFit}
use Rattle.secret.specs.Fitness.{is_new_among, are_all_apart, thinned_number, is_fit, AreAllNew}

-- number j differs from each of the first i
abbrev New : (ℕ → ℕ) → ℕ → ℕ → Type 0
New at j i = (h : ℕ) → h < i → at h ≡ at j → ⊥

-- the first c numbers are pairwise different
abbrev Apart : (ℕ → ℕ) → ℕ → Type 0
Apart at c = (j : ℕ) → j < c → New at j j

decides_new : (at : ℕ → ℕ) (j i : ℕ) → Decides (is_new_among at j i) (New at j i)
unfolding is_new_among
decides_new at j i =
    Decides-below_and (λ h. not (eqb (at h) (at j))) (λ h. at h ≡ at j → ⊥) (is_new_among at j)
    (λ h. Decides-not (eqb (at h) (at j)) (Decides-eqb (at h) (at j))) refl (λ _. refl) i

decides_apart : (at : ℕ → ℕ) (c : ℕ) → Decides (are_all_apart at c) (Apart at c)
unfolding are_all_apart
decides_apart at c =
    Decides-below_and (λ j. is_new_among at j j) (λ j. New at j j) (are_all_apart at)
    (λ j. decides_new at j j) refl (λ _. refl) c

-- numbers of which no two before c are equal have each its own place
places : (at : ℕ → ℕ) (c : ℕ) → Apart at c → (a b : ℕ) → a < c → b < c → at a ≡ at b → a ≡ b
places at c apart a b p q e = elim (cases_order a b) [
  | inl same ↦ same
  | inr other ↦ elim other
      [ inl h ↦ absurd (apart b q a h e) | inr h ↦ absurd (apart a p b h (sym e)) ]
]

-- the test of fitness says whether a secret is fit
pub decides_fit : (F : Family) (s : ℕ) → Decides (is_fit F s) (IsFit F s)
decides_fit F s =
    Decides-like (is_fit F s)
    (λ h. record { below = h.0; apart = places (thinned_number F.function s) 256 h.1 })
    (λ fit. (
      fit.below,
      λ j p i q e. let same : i ≡ j = fit.apart i j (omega arith) p e in
          omega arith,
    ))
    (Decides-and (ltb s F.modulus) (are_all_apart (thinned_number F.function s) 256)
    (Decides-ltb s F.modulus) (decides_apart (thinned_number F.function s) 256))

-- a list of the thinned numbers of a secret, judged pair by pair
pub judged : (f : ℕ → ℕ → ℕ) (s : ℕ) (xs : List ℕ) (r : Bool)
    → ((m : ℕ) → m < 256 → get_or xs m 0 ≡ thinned_number f s m)
    → MatchBool r (AreAllNew xs 256) (AreAllNew xs 256 → ⊥)
    → r ≡ are_all_apart (thinned_number f s) 256
judged f s xs r filled w =
    same_from_decides r (are_all_apart (thinned_number f s) 256)
    (Decides-like r there back (decided r w))
    (decides_apart (thinned_number f s) 256)
  where
    there : AreAllNew xs 256 → Apart (thinned_number f s) 256
    there new j p i q e = new j p i q (filled i (omega arith) ∙ e ∙ sym (filled j p))

    back : Apart (thinned_number f s) 256 → AreAllNew xs 256
    back apart j p i q e = apart j p i q (sym (filled i (omega arith)) ∙ e ∙ filled j p)

    decided : (b : Bool) → MatchBool b (AreAllNew xs 256) (AreAllNew xs 256 → ⊥)
        → Decides b (AreAllNew xs 256)
    decided true new = (λ _. new, λ _. refl)
    decided false equal = (λ e. absurd (false≢true e), λ new. absurd (equal new))
