use Rattle.std.proofs.Common.{◌≡◌, Bool, true, ◌&&◌, ◌||◌, eqb, List, [], ◌∷◌, refl, ap, ◌∙◌, inl, inr, arith}
use Rattle.std.proofs.lemmas.Bool.{eqb-true, or_cases, and_parts}
use Rattle.family.specs.Figures.{Figure, Holds, EachHolds, figures, value_after, powers_lead, dickson_leads, unfit_in_powers, unfit_in_dickson}
use Rattle.family.specs.Power.{powers_at}
use Rattle.family.specs.Dickson.{dickson, dickson_at}
use Rattle.family.proofs.FitFacts.{fit_laws}
use Rattle.family.proofs.Unmoved.{power_zero, power_one, dickson_zero, dickson_two}
use Rattle.family.proofs.figures.figures_hold.Goals as goal

-- the test that shows a figure: the functions at its own modulus, computed; and for fitness, a
-- number that f_0 leaves as it is
abbrev shown : Figure → Bool
shown (powers_lead n ks v w) = eqb (value_after (powers_at n) ks v) w
shown (dickson_leads n ks v w) = eqb (value_after (dickson_at n) ks v) w
shown (unfit_in_powers s) = eqb s 0 || eqb s 1
shown (unfit_in_dickson s) = eqb s 0 || eqb s 2

holds : (x : Figure) → shown x ≡ true → Holds x
holds (powers_lead n ks v w) t = λ p h. ap (λ m. value_after (powers_at m) ks v) h ∙ eqb-true _ w t
holds (dickson_leads n ks v w) t =
    λ d h. ap (λ m. value_after (dickson_at m) ks v) h ∙ eqb-true _ w t
holds (unfit_in_powers s) t = λ p fit.
    (fit_laws _).moved s 0 (omega arith) fit
    (elim (or_cases (eqb s 0) (eqb s 1) t) [
      | inl e ↦ rw (eqb-true s 0 e) (power_zero p.modulus.value)
      | inr e ↦ rw (eqb-true s 1 e) (power_one p.modulus.value p.modulus.range.0)
    ])
holds (unfit_in_dickson s) t = λ d fit.
    (fit_laws _).moved s 0 (omega arith) fit
    (elim (or_cases (eqb s 0) (eqb s 2) t) [
      | inl e ↦ rw (eqb-true s 0 e) (dickson_zero d.modulus.value d.modulus.range.0)
      | inr e ↦ rw (eqb-true s 2 e) (dickson_two d.modulus.value d.modulus.range.0)
    ])

abbrev all_shown : List Figure → Bool
all_shown [] = true
all_shown (x ∷ xs) = shown x && all_shown xs

each : (xs : List Figure) → all_shown xs ≡ true → EachHolds xs
each [] t = tt
each (x ∷ xs) t = (
  holds x (and_parts (shown x) (all_shown xs) t).0,
  each xs
      (and_parts (shown x) (all_shown xs) t).1,
)

pub returns : goal.returns
unfolding dickson
returns c = each figures refl
