-- What is read at a place of a list.
use Rattle.std.proofs.Common.{◌≡◌, ℕ, zero, suc, ◌+◌, ◌<◌, List, [], ◌∷◌, length, set, take, drop, Some, refl, ap, ◌∙◌, arith}
use Rattle.std.specs.List.{slice_get}

-- after a write
pub nth-set_same : {X : Type 0} (xs : List X) (i : ℕ) (x : X) → i < length xs
    → slice_get (set xs i x) i ≡ Some x
nth-set_same [] i x h = absurd (omega arith)
nth-set_same (y ∷ xs) zero x h = refl
nth-set_same (y ∷ xs) (suc i) x h = nth-set_same xs i x (omega arith)

pub nth-set_other : {X : Type 0} (xs : List X) (i j : ℕ) (x : X) → (j ≡ i → ⊥)
    → slice_get (set xs i x) j ≡ slice_get xs j
nth-set_other [] i j x h = refl
nth-set_other (y ∷ xs) zero zero x h = absurd (h refl)
nth-set_other (y ∷ xs) zero (suc j) x h = refl
nth-set_other (y ∷ xs) (suc i) zero x h = refl
nth-set_other (y ∷ xs) (suc i) (suc j) x h = nth-set_other xs i j x (λ e. h (ap suc e))

-- a place holds a record only below the length
pub nth_some : {X : Type 0} (xs : List X) (i : ℕ) (x : X) → slice_get xs i ≡ Some x → i < length xs
nth_some [] i x e = absurd (let z : ◌≡◌ {A = ℕ} 0 1 = cc in omega arith)
nth_some (y ∷ xs) zero x e = omega arith
nth_some (y ∷ xs) (suc i) x e = omega (arith, nth_some xs i x e)

-- in the part before a place, and in the part from it on
pub nth-take : {X : Type 0} (xs : List X) (n i : ℕ) → i < n
    → slice_get (take n xs) i ≡ slice_get xs i
nth-take xs zero i h = absurd (omega arith)
nth-take [] (suc n) i h = refl
nth-take (x ∷ xs) (suc n) zero h = refl
nth-take (x ∷ xs) (suc n) (suc i) h = nth-take xs n i (omega arith)

pub nth-drop : {X : Type 0} (xs : List X) (n i : ℕ) → slice_get (drop n xs) i ≡ slice_get xs (n + i)
nth-drop xs zero i = let e : i ≡ 0 + i = omega arith in ap (slice_get xs) e
nth-drop [] (suc n) i = refl
nth-drop (x ∷ xs) (suc n) i = let e : suc (n + i) ≡ suc n + i = omega arith in
    nth-drop xs n i ∙ ap (slice_get (x ∷ xs)) e
