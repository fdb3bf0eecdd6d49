-- The lines of a script, as they are kept and printed.
use Rattle.std.specs.Prelude.{ℕ, List, [], ◌∷◌, ◌++◌, take}

-- what is kept of a line: its first 256 bytes
abbrev pub line_front : List ℕ → List ℕ
line_front line = take 256 line

-- lines, each with a line feed behind it
abbrev pub text_of : List (List ℕ) → List ℕ
text_of [] = []
text_of (line ∷ lines) = line ++ (10 ∷ text_of lines)
