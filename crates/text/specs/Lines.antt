-- Lines in bytes. Only a line feed, byte 10, ends a line.
use Rattle.std.specs.Prelude.{ℕ, Bool, true, false, List, [], ◌∷◌, ◌==◌, if◌then◌else◌}

-- the first line: the bytes before the first line feed, or all of them
abbrev pub line_in : List ℕ → List ℕ
line_in [] = []
line_in (x ∷ xs) = if x == 10 then [] else x ∷ line_in xs

-- the bytes behind the first line feed: none where there is no line feed
abbrev pub behind : List ℕ → List ℕ
behind [] = []
behind (x ∷ xs) = if x == 10 then xs else behind xs

-- a byte more on the first line, which begins with it where there is no line yet
abbrev pub onto_first : ℕ → List (List ℕ) → List (List ℕ)
onto_first x [] = (x ∷ []) ∷ []
onto_first x (line ∷ lines) = (x ∷ line) ∷ lines

-- all lines: a last one needs no line feed, and a line feed at the end opens no further line
abbrev pub lines_in : List ℕ → List (List ℕ)
lines_in [] = []
lines_in (x ∷ xs) = if x == 10 then [] ∷ lines_in xs else onto_first x (lines_in xs)

-- there is a line exactly where there are bytes
abbrev pub is_any : List ℕ → Bool
is_any [] = false
is_any (x ∷ xs) = true
