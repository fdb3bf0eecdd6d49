-- A cursor that takes the next word.
use Rattle.std.proofs.Common.{◌≡◌, ℕ, suc, Bool, true, false, not, cond, ltb, Some, None, Option, refl, ◌+◌, min, List, [], get_or, length, take, drop, sym, ap, ◌∙◌, arith, inl, inr, ◌-◌, take_all, length-drop}
use Rattle.std.specs.List.{position_or_len}
use Rattle.std.specs.Option.{unwrap_or}
use Rattle.std.proofs.lemmas.Bool.{cases_lt}
use Rattle.std.proofs.lemmas.Bool.Decides.{nat_tests}
use Rattle.std.proofs.lemmas.List.Sums.{prefix_len-le-length}
use Rattle.std.proofs.lemmas.List.{drop-drop, drop_all}
use Rattle.lines.specs.Cursor.{IsCursor}
use Rattle.lines.specs.Lines.{word_at, words_in}
use Rattle.lines.proofs.WordFacts.{first_of, is_space, others_of}

-- the place of the first, or the length where there is none
pub first_or_all : (p : ℕ → Bool) (xs : List ℕ) (r : Option ℕ)
    → r ≡ cond (ltb (position_or_len p xs) (length xs)) (Some (position_or_len p xs)) None
    → unwrap_or r (length xs) ≡ position_or_len p xs
first_or_all p xs r is =
    ap (λ o. unwrap_or o (length xs)) is ∙ at (ltb (position_or_len p xs) (length xs)) refl
  where
    at : (b : Bool) → ltb (position_or_len p xs) (length xs) ≡ b
        → unwrap_or (cond b (Some (position_or_len p xs)) None) (length xs) ≡ position_or_len p xs
    at true e = refl
    at false e = let most = prefix_len-le-length (λ x. not (p x)) xs in grind (arith, nat_tests)

-- a place behind the end is the end
drop_within : (k : ℕ) (line : List ℕ) → drop (min k (length line)) line ≡ drop k line
drop_within k line = elim (cases_lt (length line) k) [
  | inl past ↦ drop_all (min k (length line)) line (omega arith)
      ∙ sym (drop_all k line (omega arith))
  | inr within ↦ let same : min k (length line) ≡ k = omega arith in ap (λ i. drop i line) same
]

-- what is left of the line behind a place
pub left : (line : List ℕ) (start : ℕ)
    → take (length line - start) (drop start line) ≡ drop start line
left line start = take_all _ _ (omega (arith, length-drop {A = ℕ}))

module _ (line : List ℕ) (start number n : ℕ) (s : IsCursor line start number)
    (is : n ≡ position_or_len is_space (take (length line - start) (drop start line))) where
  ends : n ≡ position_or_len is_space (drop start line)
  ends = is ∙ ap (position_or_len is_space) (left line start)

  pub first_taken : take n (take (length line - start) (drop start line))
      ≡ word_at (words_in line) number
  first_taken =
      let same : number + 0 ≡ number = omega arith in
      ap (take n) (left line start) ∙ ap (λ k. take k (drop start line)) ends
      ∙ first_of (drop start line) ∙ s.2 0 ∙ ap (word_at (words_in line)) same

  pub stands_behind : (next : ℕ) → next ≡ min (start + n + 1) (length line)
      → IsCursor line next (number + 1)
  stands_behind next at = (
    omega arith,
    omega arith,
    λ i.
        let ahead : start + n + 1 ≡ start + (n + 1) = omega arith in
        let one : number + suc i ≡ number + 1 + i = omega arith in
        ap (λ k. get_or (words_in (drop k line)) i []) at
        ∙ ap (λ l. get_or (words_in l) i [])
        (drop_within (start + n + 1) line ∙ ap (λ k. drop k line) ahead
        ∙ sym (drop-drop (n + 1) start line))
        ∙ ap (λ k. get_or (words_in (drop (k + 1) (drop start line))) i []) ends
        ∙ others_of (drop start line) i ∙ s.2 (suc i) ∙ ap (word_at (words_in line)) one,
  )
