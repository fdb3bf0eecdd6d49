-- Bytes parted into their lines.
use Rattle.std.proofs.Common.{◌≡◌, ℕ, Bool, true, false, cond, List, [], ◌∷◌, eqb, ap, refl}
use Rattle.text.specs.Lines.{behind, line_in, lines_in, onto_first}

-- where there are bytes, there is a first line, and the others are behind it
pub lines_parted : (x : ℕ) (xs : List ℕ)
    → lines_in (x ∷ xs) ≡ line_in (x ∷ xs) ∷ lines_in (behind (x ∷ xs))
lines_parted x [] = at (eqb x 10)
  where
    at : (b : Bool) → cond b ([] ∷ []) ((x ∷ []) ∷ [])
        ≡ cond b [] (x ∷ []) ∷ lines_in (cond b [] [])
    at true = refl
    at false = refl
lines_parted x (y ∷ ys) = at (eqb x 10) (lines_parted y ys)
  where
    at : (b : Bool) → lines_in (y ∷ ys) ≡ line_in (y ∷ ys) ∷ lines_in (behind (y ∷ ys))
        → cond b ([] ∷ lines_in (y ∷ ys)) (onto_first x (lines_in (y ∷ ys)))
        ≡ cond b [] (x ∷ line_in (y ∷ ys)) ∷ lines_in (cond b (y ∷ ys) (behind (y ∷ ys)))
    at true next = refl
    at false next = ap (onto_first x) next
