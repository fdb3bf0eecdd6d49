-- Places and steps, going round.
use Rattle.std.proofs.Common.{◌≡◌, ℕ, ◌+◌, ◌-◌, ◌%◌, ◌<◌, ◌≤◌, sym, ap, ◌∙◌, ⊎_elim, mod-lt, mod-eq_of_lt, arith}
use native.Mathlib.Nat.{mod-eq-sub-mod, mod-add-mod}
use Rattle.std.proofs.lemmas.Bool.{cases_lt}
use Rattle.table.specs.Table.{place_on, steps_to}

-- going round at most once: not yet past the end, or past it
short : (n a s : ℕ) → a + s < n → (a + s) % n ≡ a + s
short n a s h = mod-eq_of_lt h

past : (n a s : ℕ) → n ≤ a + s → a + s - n < n → (a + s) % n ≡ a + s - n
past n a s h l = mod-eq-sub-mod h ∙ mod-eq_of_lt l

-- places and steps from the start that `next` comes to
module _ (next n : ℕ) where
  pub place_short : (s : ℕ) → next % n + s < n → place_on next n s ≡ next % n + s
  place_short s h = sym (mod-add-mod next n s) ∙ short n (next % n) s h

  pub place_past : (s : ℕ) → n ≤ next % n + s → next % n + s - n < n
      → place_on next n s ≡ next % n + s - n
  place_past s h l = sym (mod-add-mod next n s) ∙ past n (next % n) s h l

  pub place_below : (s : ℕ) → s < n → place_on next n s < n
  place_below s h = mod-lt (next + s) (omega arith)

  steps_ahead : (q : ℕ) → next % n < n → next % n ≤ q → q < n → steps_to next n q ≡ q - next % n
  steps_ahead q a h l = past n q (n - next % n) (omega arith) (omega arith) ∙ omega arith

  steps_round : (q : ℕ) → next % n < n → q < next % n → steps_to next n q ≡ q + (n - next % n)
  steps_round q a h = short n q (n - next % n) (omega arith)

  -- the steps to a place lead to it, and the place so many steps on is so many steps on
  pub place_steps : (q : ℕ) → q < n → place_on next n (steps_to next n q) ≡ q
  place_steps q h =
      let a : next % n < n = mod-lt next (omega arith) in
      ⊎_elim
      (λ l. ap (place_on next n) (steps_round q a l)
      ∙ place_past (q + (n - next % n)) (omega arith) (omega arith) ∙ omega arith)
      (λ l. ap (place_on next n) (steps_ahead q a l h) ∙ place_short (q - next % n) (omega arith)
      ∙ omega arith)
      (cases_lt q (next % n))

  pub steps_place : (s : ℕ) → s < n → steps_to next n (place_on next n s) ≡ s
  steps_place s h =
      let a : next % n < n = mod-lt next (omega arith) in
      ⊎_elim
      (λ l. ap (steps_to next n) (place_short s l) ∙ steps_ahead (next % n + s) a (omega arith) l
      ∙ omega arith)
      (λ l. ap (steps_to next n) (place_past s l (omega arith))
      ∙ steps_round (next % n + s - n) a (omega arith) ∙ omega arith)
      (cases_lt (next % n + s) n)

  pub steps_below : (q : ℕ) → q < n → steps_to next n q < n
  steps_below q h = mod-lt (q + (n - next % n)) (omega arith)
