-- Lines of input, as they are read up to their line feeds.
use Rattle.std.proofs.Common.{◌≡◌, ℕ, suc, ◌-◌, Bool, true, false, cond, List, [], ◌∷◌, length, take, nat_lt, eqb, slice_index, lt-ltb, refl, ap, ◌∙◌, arith}
use Rattle.std.specs.Io.BufRead.{strip_last, take_through}
use Rattle.text.specs.Lines.{line_in}

-- a byte in front of a last one that may go
strip_cons : (x y : ℕ) (ys : List ℕ) → strip_last 10 (x ∷ (y ∷ ys)) ≡ x ∷ strip_last 10 (y ∷ ys)
strip_cons x y ys =
    let longer : suc (suc (length ys)) - 1 ≡ suc (length ys) = omega arith in
    let shorter : suc (length ys) - 1 ≡ length ys = omega arith in
    let some : nat_lt 0 (suc (length ys)) ≡ true = lt-ltb 0 (suc (length ys)) (omega arith) in
    let more : nat_lt 0 (suc (suc (length ys))) ≡ true =
    lt-ltb 0 (suc (suc (length ys))) (omega arith) in
    rw (longer, shorter, some, more) (at (eqb (slice_index (y ∷ ys) (length ys)) 10))
  where
    at : (b : Bool) → cond b (x ∷ take (length ys) (y ∷ ys)) (x ∷ (y ∷ ys))
        ≡ x ∷ cond b (take (length ys) (y ∷ ys)) (y ∷ ys)
    at true = refl
    at false = refl

-- what was read up to a line feed is the line, once the line feed is taken off
pub piece_is_line : (xs : List ℕ) → strip_last 10 (take_through 10 xs) ≡ line_in xs
piece_is_line [] = refl
piece_is_line (x ∷ xs) = at (eqb x 10) refl xs (piece_is_line xs)
  where
    at : (b : Bool) → eqb x 10 ≡ b → (ys : List ℕ) → strip_last 10 (take_through 10 ys) ≡ line_in ys
        → strip_last 10 (cond b (x ∷ []) (x ∷ take_through 10 ys)) ≡ cond b [] (x ∷ line_in ys)
    at true is ys same = ap (λ b. cond b [] (x ∷ [])) is
    at false is [] same = ap (λ b. cond b [] (x ∷ [])) is
    at false is (y ∷ ys) same = longer (eqb y 10) ∙ ap (λ l. x ∷ l) same
      where
        longer : (b : Bool) → strip_last 10 (x ∷ cond b (y ∷ []) (y ∷ take_through 10 ys))
            ≡ x ∷ strip_last 10 (cond b (y ∷ []) (y ∷ take_through 10 ys))
        longer true = strip_cons x y []
        longer false = strip_cons x y (take_through 10 ys)
