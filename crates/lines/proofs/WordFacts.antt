-- The words of a line are what is cut at its spaces.
use Rattle.std.proofs.Common.{◌≡◌, ℕ, zero, suc, ◌+◌, Bool, true, false, not, List, [], ◌∷◌, eqb, get_or, length, take, drop, refl, sym, ap, ◌∙◌, arith, cond}
use Rattle.std.specs.List.{onto_first, position_or_len, slice_split}
use Rattle.std.proofs.lemmas.List.Splits.{join_with_byte-slice_split}
use Rattle.lines.specs.Lines.{line_of, words_in}

-- the words, joined by single spaces, are the line
pub words_joined : (line : List ℕ) → line_of (words_in line) ≡ line
words_joined [] = refl
words_joined (b ∷ bs) = join_with_byte-slice_split 32 (b ∷ bs)

-- where there are bytes
pub words_cut : (line : List ℕ) → eqb (length line) 0 ≡ false
    → words_in line ≡ slice_split (λ b. eqb b 32) line
words_cut [] some = cc
words_cut (b ∷ bs) some = refl

-- a line of no bytes is cut into one word of none, which is read as none is
pub word_cut : (line : List ℕ) (i : ℕ)
    → get_or (slice_split (λ b. eqb b 32) line) i [] ≡ get_or (words_in line) i []
word_cut [] zero = refl
word_cut [] (suc i) = refl
word_cut (b ∷ bs) i = refl

abbrev pub is_space : ℕ → Bool
is_space b = eqb b 32

onto_front : (x : ℕ) (parts : List (List ℕ))
    → get_or (onto_first x parts) 0 [] ≡ x ∷ get_or parts 0 []
onto_front x [] = refl
onto_front x (part ∷ parts) = refl

onto_others : (x : ℕ) (parts : List (List ℕ)) (i : ℕ)
    → get_or (onto_first x parts) (suc i) [] ≡ get_or parts (suc i) []
onto_others x [] i = refl
onto_others x (part ∷ parts) i = refl

-- the first word ends at the first space
front : (line : List ℕ) → take (position_or_len is_space line) line
    ≡ get_or (slice_split is_space line) 0 []
front [] = refl
front (x ∷ xs) = at (is_space x) (front xs)
  where
    at : (b : Bool) → take (position_or_len is_space xs) xs ≡ get_or (slice_split is_space xs) 0 []
        → take (cond (not b) (1 + position_or_len is_space xs) 0) (x ∷ xs)
        ≡ get_or (cond b ([] ∷ slice_split is_space xs) (onto_first x (slice_split is_space xs))) 0
        []
    at true same = refl
    at false same =
        let one : 1 + position_or_len is_space xs ≡ suc (position_or_len is_space xs) =
        omega arith in
        ap (λ k. take k (x ∷ xs)) one ∙ ap (λ l. x ∷ l) same
        ∙ sym (onto_front x (slice_split is_space xs))

-- and the others stand behind it
others : (line : List ℕ) (i : ℕ)
    → get_or (words_in (drop (position_or_len is_space line + 1) line)) i []
    ≡ get_or (slice_split is_space line) (suc i) []
others [] i = refl
others (x ∷ xs) i = at (is_space x) (others xs i)
  where
    at : (b : Bool) → get_or (words_in (drop (position_or_len is_space xs + 1) xs)) i []
        ≡ get_or (slice_split is_space xs) (suc i) []
        → get_or (words_in (drop (cond (not b) (1 + position_or_len is_space xs) 0 + 1) (x ∷ xs))) i
        []
        ≡ get_or (cond b ([] ∷ slice_split is_space xs) (onto_first x (slice_split is_space xs)))
        (suc i) []
    at true same = sym (word_cut xs i)
    at false same =
        let one : 1 + position_or_len is_space xs + 1 ≡ suc (position_or_len is_space xs + 1) =
        omega arith in
        ap (λ k. get_or (words_in (drop k (x ∷ xs))) i []) one ∙ same
        ∙ sym (onto_others x (slice_split is_space xs) i)

pub first_of : (line : List ℕ)
    → take (position_or_len is_space line) line ≡ get_or (words_in line) 0 []
first_of line = front line ∙ word_cut line 0

pub others_of : (line : List ℕ) (i : ℕ)
    → get_or (words_in (drop (position_or_len is_space line + 1) line)) i []
    ≡ get_or (words_in line) (suc i) []
others_of line i = others line i ∙ word_cut line (suc i)
