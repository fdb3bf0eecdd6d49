-- What holds of fitness in every family.
use Rattle.std.proofs.Common.{◌≡◌, ℕ, ◌^◌, ◌<◌, eqb, sym, refl, ◌∙◌, arith, pow_pos}
use native.Mathlib.Nat.{zero-div}
use lib.Pow.{pow-lt}
use Rattle.family.specs.Commuting.{Family}
use Rattle.family.specs.Rights.{has_right, no_rights}
use Rattle.family.specs.Thin.{thin}
use Rattle.family.specs.Fit.{FitLaws}
use Rattle.family.proofs.Tables.{all_below, at_each, agree, agreed}
use Rattle.family.proofs.ThinFacts.{thin_like, thin_empty, thin_single}

-- the byte 2^k stands for the set of right k alone
pub alone : (k j : ℕ) → k < 8 → j < 8 → has_right (2 ^ k) j ≡ eqb j k
alone k j p q =
    agreed (has_right (2 ^ k) j) (eqb j k)
    (at_each (λ i. agree (has_right (2 ^ k) i) (eqb i k)) 8
    (at_each (λ h. all_below (λ i. agree (has_right (2 ^ h) i) (eqb i h)) 8) 8 refl k p) j q)

-- and the byte 0 for the empty set
pub nothing : (k : ℕ) → no_rights k ≡ has_right 0 k
nothing k = rw zero-div

-- a secret that f_k leaves as it is has one number for two sets: that of right k, and the empty one
pub fit_laws : (F : Family) → FitLaws F
fit_laws F = record {
  moved = λ s k p fit e.
      let small : 2 ^ k < 256 = pow-lt {i = k} {j = 8} p in
      let same : thin F.function s (has_right (2 ^ k)) ≡ thin F.function s (has_right 0) =
      thin_like F.function (has_right (2 ^ k)) (λ j. eqb j k) s (λ j q. alone k j p q)
      ∙ thin_single F.function s k p ∙ e ∙ sym (thin_empty F.function s)
      ∙ thin_like F.function no_rights (has_right 0) s (λ j q. nothing j) in
      let equal : 2 ^ k ≡ 0 = fit.apart (2 ^ k) 0 small (omega arith) same in
      omega (arith, pow_pos k, equal);
}
