-- A line and its words, parted by spaces. A space is byte 32.
use Rattle.std.specs.Prelude.{ℕ, ◌-◌, Bool, not, ◌&&◌, List, [], ◌∷◌, length, ◌==◌, nat_le, get_or}
use Rattle.std.specs.List.{join_with_byte, list_all, slice_split}

-- the parts between spaces, in order, empty ones too; a line of no bytes has no words
abbrev pub words_in : List ℕ → List (List ℕ)
words_in [] = []
words_in (b ∷ bs) = slice_split (λ byte. byte == 32) (b ∷ bs)

-- the words with a space between each two
abbrev pub line_of : List (List ℕ) → List ℕ
line_of words = join_with_byte 32 words

-- the word of a number, counted from 1; no bytes where there is none
abbrev pub word_at : List (List ℕ) → ℕ → List ℕ
word_at words number = get_or words (number - 1) []

-- each byte can be printed on one line
abbrev pub is_printable : List ℕ → Bool
is_printable line = list_all (λ b. nat_le 32 b && nat_le b 126) line

-- no word is empty: single spaces part the words, and none stands at an end
abbrev pub has_no_empty : List (List ℕ) → Bool
has_no_empty words = list_all (λ word. not (length word == 0)) words

-- 255 bytes at most, each printable, and single spaces between the words
abbrev pub is_well_formed : List ℕ → Bool
is_well_formed line =
    nat_le (length line) 255 && (is_printable line && has_no_empty (words_in line))
