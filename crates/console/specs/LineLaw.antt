-- What makes the lines of a script its lines: there is one way only to part its bytes so.
use Rattle.std.specs.Prelude.{◌≡◌, ℕ, true, List, [], ◌∷◌, ◌==◌, if◌then◌else◌}
use Rattle.std.specs.List.{list_all}
use Rattle.lines.specs.AnswerLine.{is_one_line}
use Rattle.text.specs.Lines.{lines_in}
use Rattle.console.specs.Lines.{text_of}

-- the bytes with a line feed at their end, which is put there where they have none; no bytes need
-- none
abbrev pub with_line_feed : List ℕ → List ℕ
with_line_feed [] = []
with_line_feed (x ∷ []) = if x == 10 then x ∷ [] else x ∷ (10 ∷ [])
with_line_feed (x ∷ (y ∷ ys)) = x ∷ with_line_feed (y ∷ ys)

-- no line has a line feed in it, and with one behind each they are the bytes again
pub record LawOfLines : Type 0 where
  pub apart : (xs : List ℕ) → list_all is_one_line (lines_in xs) ≡ true
  pub together : (xs : List ℕ) → text_of (lines_in xs) ≡ with_line_feed xs
