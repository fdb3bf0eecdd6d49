-- The law of lines.
use Rattle.std.proofs.Common.{◌≡◌, ℕ, Bool, true, false, not, ◌&&◌, List, [], ◌∷◌, cond, eqb, eqb-true, refl, sym, ap, ◌∙◌}
use Rattle.std.specs.List.{list_all}
use Rattle.lines.specs.AnswerLine.{is_one_line}
use Rattle.console.specs.LineLaw.{LawOfLines, with_line_feed}
use Rattle.text.specs.Lines.{lines_in, onto_first}
use Rattle.text.proofs.LinesParted.{lines_parted}
use Rattle.console.specs.Lines.{text_of}

onto_line : (x : ℕ) (lines : List (List ℕ)) → eqb x 10 ≡ false → list_all is_one_line lines ≡ true
    → list_all is_one_line (onto_first x lines) ≡ true
onto_line x [] other apart = ap (λ b. (not b && true) && true) other
onto_line x (line ∷ lines) other apart =
    ap (λ b. (not b && is_one_line line) && list_all is_one_line lines) other ∙ apart

apart : (xs : List ℕ) → list_all is_one_line (lines_in xs) ≡ true
apart [] = refl
apart (x ∷ xs) = at (eqb x 10) refl (apart xs)
  where
    at : (b : Bool) → eqb x 10 ≡ b → list_all is_one_line (lines_in xs) ≡ true
        → list_all is_one_line (cond b ([] ∷ lines_in xs) (onto_first x (lines_in xs))) ≡ true
    at true feed next = next
    at false other next = onto_line x (lines_in xs) other next

together : (xs : List ℕ) → text_of (lines_in xs) ≡ with_line_feed xs
together [] = refl
together (x ∷ []) = at (eqb x 10) refl
  where
    at : (b : Bool) → eqb x 10 ≡ b
        → text_of (cond b ([] ∷ []) ((x ∷ []) ∷ [])) ≡ cond b (x ∷ []) (x ∷ (10 ∷ []))
    at true feed = ap (λ y. y ∷ []) (sym (eqb-true x 10 feed))
    at false other = refl
together (x ∷ (y ∷ ys)) = at (eqb x 10) refl (together (y ∷ ys))
  where
    at : (b : Bool) → eqb x 10 ≡ b → text_of (lines_in (y ∷ ys)) ≡ with_line_feed (y ∷ ys)
        → text_of (cond b ([] ∷ lines_in (y ∷ ys)) (onto_first x (lines_in (y ∷ ys))))
        ≡ x ∷ with_line_feed (y ∷ ys)
    at true feed next =
        ap (λ l. 10 ∷ l) next ∙ ap (λ z. z ∷ with_line_feed (y ∷ ys)) (sym (eqb-true x 10 feed))
    at false other next =
        ap (λ lines. text_of (onto_first x lines)) (lines_parted y ys)
        ∙ ap (λ l. x ∷ l) (ap text_of (sym (lines_parted y ys)) ∙ next)

pub law_of_lines : LawOfLines
law_of_lines = record { apart = apart; together = together }
