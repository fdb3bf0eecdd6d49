-- What is read from a list after others were written into it.
use Rattle.std.proofs.Common.{◌≡◌, ℕ, ◌+◌, ◌-◌, ◌<◌, ◌≤◌, List, ◌++◌, length, get_or, take, drop, sym, refl, ap, ◌∙◌, inl, inr, arith}
use Rattle.std.proofs.lemmas.List.{length-append, length-take, length-drop, length-take-le, take-append-le, take_all, drop_at, same_lists, get_or_append_left, get_or-append_right, get_or-take, get_or-drop}
use Rattle.std.proofs.lemmas.Bool.{cases_lt}
use Rattle.memory.specs.Parts.{IsInPart}
use Rattle.store.specs.Parts.{with_part, part_of}
use Rattle.store.proofs.AnswerWords.{length_part}

module _ {A : Type 0} (xs : List A) (start : ℕ) (ys : List A) (h : start + length ys ≤ length xs)
  where
    front : length (take start xs) ≡ start
    front = length-take-le start xs (omega arith)

    pub length_overwritten : length (with_part xs start ys) ≡ length xs
    length_overwritten = simp (length-append, length-take, length-drop) (omega arith)

    -- the first elements written are there
    pub first_written : (l : ℕ) → l ≤ length ys
        → part_of start l (with_part xs start ys) ≡ take l ys
    first_written l few =
        ap (take l) (drop_at (take start xs) (ys ++ drop (start + length ys) xs) start front)
        ∙ take-append-le l ys (drop (start + length ys) xs) few

    -- all of them are
    pub part_written : part_of start (length ys) (with_part xs start ys) ≡ ys
    part_written = first_written (length ys) (omega arith) ∙ take_all (length ys) ys (omega arith)

    -- a place outside of them holds what it held
    outside : (i : ℕ) (d : A) → (IsInPart start (length ys) i → ⊥)
        → get_or (with_part xs start ys) i d ≡ get_or xs i d
    outside i d none = elim (cases_lt i start) [
      | inl below ↦
          get_or_append_left (take start xs) (ys ++ drop (start + length ys) xs) d i
          (omega (arith, front)) ∙ get_or-take start xs i d below
      | inr above ↦ elim (cases_lt i (start + length ys)) [
        | inl within ↦ absurd (none (above, within))
        | inr past ↦
            get_or-append_right (take start xs) (ys ++ drop (start + length ys) xs) start i d front
            above
            ∙ get_or-append_right ys (drop (start + length ys) xs) (length ys) (i - start) d refl
            (omega arith)
            ∙ get_or-drop (start + length ys) xs (i - start - length ys) d
            ∙ ap (λ j. get_or xs j d) (omega arith)
      ]
    ]

    -- a part that shares no place with them holds what it held
    pub part_outside : (s l : ℕ) → s + l ≤ length xs
        → ((b : ℕ) → IsInPart start (length ys) b → IsInPart s l b → ⊥)
        → part_of s l (with_part xs start ys) ≡ part_of s l xs
    part_outside s l within none =
        let after : length (part_of s l (with_part xs start ys)) ≡ l =
        length_part (with_part xs start ys) s l (omega (arith, length_overwritten)) in
        same_lists (part_of s l (with_part xs start ys)) (part_of s l xs)
        (after ∙ sym (length_part xs s l within)) (λ i d k.
        let here : i < l = omega arith in
        get_or-take l (drop s (with_part xs start ys)) i d here
        ∙ get_or-drop s (with_part xs start ys) i d
        ∙ outside (s + i) d (λ hit. none (s + i) hit (omega arith, omega arith))
        ∙ sym (get_or-take l (drop s xs) i d here ∙ get_or-drop s xs i d))
