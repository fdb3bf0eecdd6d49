-- Where a cursor over the words of a line stands.
use Rattle.std.specs.Prelude.{◌≡◌, ℕ, ◌+◌, ◌≤◌, List, [], drop, get_or, length}
use Rattle.lines.specs.Lines.{word_at, words_in}

-- the words from a place in the line on are its words from a number on
abbrev pub IsCursor : List ℕ → ℕ → ℕ → Type 0
IsCursor line start number =
    (start ≤ length line) × (1 ≤ number)
    × ((i : ℕ) → get_or (words_in (drop start line)) i [] ≡ word_at (words_in line) (number + i))
