-- Rows of a directory after one is entered behind them, and after one is removed.
use Rattle.std.proofs.Common.{◌≡◌, ℕ, zero, suc, ◌+◌, ◌-◌, ◌<◌, ◌≤◌, Bool, true, false, List, [], ◌∷◌, ◌++◌, length, take, drop, replicate, get_or, is_none, Some, refl, sym, ap, subst, ◌∙◌, arith}
use Rattle.std.specs.List.{All, AllByRecursion, position, position_or_len, slice_get}
use Rattle.std.proofs.Math.Seq.{take-append_seam}
use Rattle.std.proofs.lemmas.Bool.{false≢true}
use Rattle.std.proofs.lemmas.Grind.{common_steps}
use Rattle.std.proofs.lemmas.List.{length-append, length-take-le, length-drop, take_at, take_all}
use Rattle.std.proofs.lemmas.List.Elements.{All-append, All-take, All-drop, All-from_recursion, recursion_from_All}
use Rattle.std.proofs.lemmas.List.Quantifiers.{position-Some}
use Rattle.std.proofs.lemmas.List.Sums.{fails_before_first}
use Rattle.std.proofs.lemmas.Option.{slice_get-get_or}
use Rattle.holder.specs.Dropping.{check_number}
use Rattle.holder.specs.declared.capability.Capability.{Capability}
use Rattle.memory.specs.Names.{IsSameName, is_same_name, is_lawful_name, name_of}
use Rattle.memory.specs.Wiped.{zero_row}
use Rattle.memory.specs.Words.{EachTwo, IsLawfulName, IsRowSound, AreRowsSound}
use Rattle.memory.specs.declared.row.Masks.{Masks}
use Rattle.memory.specs.declared.row.Row.{Row}
use Rattle.memory.proofs.SameNames.{same_name_true, same_name_words}
use Rattle.memory.proofs.SoundFacts.{decides_name}
use Rattle.rows.specs.Changes.{row_of, rows_without, with_gap_closed}
use Rattle.rows.specs.Search.{place_of_name}

module _ {A : Type 0} where
  -- the element put behind the others is at the next place
  pub entered_last : (xs : List A) (y : A) → slice_get (xs ++ y ∷ []) (length xs) ≡ Some y
  entered_last [] y = refl
  entered_last (x ∷ xs) y = entered_last xs y

  -- up to it are all of them
  pub take_entered : (xs : List A) (y : A) → take (length xs + 1) (xs ++ y ∷ []) ≡ xs ++ y ∷ []
  take_entered xs y =
      take_all (length xs + 1) (xs ++ y ∷ []) (omega (arith, length-append xs (y ∷ [])))

  -- what holds of each element, and of the one put behind them, holds of each
  pub all_entered : (P : A → Type 0) (xs : List A) (y : A) → AllByRecursion P xs → P y
      → AllByRecursion P (xs ++ y ∷ [])
  all_entered P [] y all here = (here, tt)
  all_entered P (x ∷ xs) y all here = (all.0, all_entered P xs y all.1 here)

  -- what holds of each element holds without one of them
  pub all_without : (P : A → Type 0) (xs : List A) (i : ℕ) → AllByRecursion P xs
      → AllByRecursion P (take i xs ++ drop (i + 1) xs)
  all_without P xs i all =
      let each : All P xs = All-from_recursion P xs all in
      recursion_from_All P (take i xs ++ drop (i + 1) xs)
      (All-append P (take i xs) (drop (i + 1) xs) (All-take P i xs each)
      (All-drop P (i + 1) xs each))

  -- what holds of each two elements, and of each with the one put behind them, holds of each two
  pub each_two_entered : (Q : A → A → Type 0) (xs : List A) (y : A) → EachTwo Q xs
      → AllByRecursion (λ x. Q x y) xs → EachTwo Q (xs ++ y ∷ [])
  each_two_entered Q [] y each all = (tt, tt)
  each_two_entered Q (x ∷ xs) y each all =
      (all_entered (Q x) xs y each.0 all.0, each_two_entered Q xs y each.1 all.1)

  -- where a later one is taken away the first stays, and none is taken away of none
  first_stays : (x : A) (xs : List A) (i : ℕ)
      → x ∷ (take i xs ++ drop (i + 1) xs) ≡ take (suc i) (x ∷ xs) ++ drop (suc i + 1) (x ∷ xs)
  first_stays x xs i = let e : suc (i + 1) ≡ suc i + 1 = omega arith in
      ap (λ j. x ∷ (take i xs ++ drop j (x ∷ xs))) e

  none_stays : (i : ℕ) → ◌≡◌ {A = List A} [] (take i [] ++ drop (i + 1) [])
  none_stays zero = refl
  none_stays (suc i) = let e : suc (i + 1) ≡ suc i + 1 = omega arith in
      ap (λ j. drop {A = A} j []) e

  -- what holds of each two elements holds without one of them
  pub each_two_without : (Q : A → A → Type 0) (xs : List A) (i : ℕ) → EachTwo Q xs
      → EachTwo Q (take i xs ++ drop (i + 1) xs)
  each_two_without Q [] i each = subst (EachTwo Q) (none_stays i) tt
  each_two_without Q (x ∷ xs) zero each = each.1
  each_two_without Q (x ∷ xs) (suc i) each =
      subst (EachTwo Q) (first_stays x xs i)
      (all_without (Q x) xs i each.0, each_two_without Q xs i each.1)

  -- no element passes where none is found
  none_passes : (p : A → Bool) (xs : List A) → is_none (position p xs) ≡ true
      → AllByRecursion (λ x. p x ≡ false) xs
  none_passes p xs none =
      let past : length xs ≤ position_or_len p xs = grind (arith, common_steps) in
      recursion_from_All (λ x. p x ≡ false) xs (λ i d h. fails_before_first p xs i d (omega arith))

  -- without one of them there is one less
  pub length_without : (xs : List A) (i : ℕ) → i < length xs
      → length (take i xs ++ drop (i + 1) xs) ≡ length xs - 1
  length_without xs i h =
      omega (
        arith,
        length-append (take i xs) (drop (i + 1) xs),
        length-take-le i xs,
        length-drop
            (i + 1) xs,
      )

module _ (rows : List Row) (i : ℕ) (h : i < length rows) where
  -- there are as many rows after a gap is closed, and all but the last are those that stay
  pub length_closed : length (with_gap_closed i rows) ≡ length rows
  length_closed =
      omega (arith, length-append (rows_without i rows) (zero_row ∷ []), length_without rows i h)

  pub take_closed : take (length rows - 1) (with_gap_closed i rows) ≡ rows_without i rows
  take_closed =
      take_at (rows_without i rows) (zero_row ∷ []) (length rows - 1) (length_without rows i h)

-- a row has the name that it was made with
pub name_row : (bs : List ℕ) (entry : Capability) (masks : Masks)
    → name_of (row_of bs entry masks) ≡ bs
name_row bs entry masks = take-append_seam bs (replicate (24 - length bs) 0)

-- a name is found at a place that is there, and at a row of that name
module _ (bs : List ℕ) (rows : List Row) (i : ℕ) (e : place_of_name bs rows ≡ Some i) where
  pub searched_within : i < length rows
  searched_within = (position-Some (λ row. is_same_name (name_of row) bs) rows i zero_row e).0

  pub searched_found : (r : Row) × ((slice_get rows i ≡ Some r) × IsSameName (name_of r) bs)
  searched_found =
      let found = position-Some (λ row. is_same_name (name_of row) bs) rows i zero_row e in
      let r : Row = get_or rows i zero_row in
      (r, (slice_get-get_or rows i zero_row found.0, same_name_words (name_of r) bs found.1))

-- a name that is not found is that of no row
pub searched_none : (bs : List ℕ) (rows : List Row) → is_none (place_of_name bs rows) ≡ true
    → AllByRecursion (λ r. IsSameName (name_of r) bs → ⊥) rows
searched_none bs rows none =
    let fails =
    All-from_recursion _ rows (none_passes (λ row. is_same_name (name_of row) bs) rows none) in
    recursion_from_All _ rows
    (λ i d h same. false≢true
    (sym (fails i d h) ∙ same_name_true (name_of (get_or rows i d)) bs same))

module _ (n : ℕ) (port : List ℕ) where
  -- a row of a lawful name and a capability of this port with a check below n is sound
  pub row_of_sound : (bs : List ℕ) (entry : Capability) (masks : Masks)
      → is_lawful_name bs ≡ true → entry.port.bytes ≡ port → check_number entry < n
      → IsRowSound n port (row_of bs entry masks)
  row_of_sound bs entry masks lawful same below =
      let words : IsLawfulName bs = (decides_name bs).0 lawful in
      (subst IsLawfulName (sym (name_row bs entry masks)) words, (words.1.0, (same, below)))

  -- rows stay sound where such a row is entered under a new name
  pub rows_entered : (rows : List Row) (bs : List ℕ) (entry : Capability) (masks : Masks)
      → AreRowsSound n port rows
      → is_lawful_name bs ≡ true → entry.port.bytes ≡ port → check_number entry < n
      → is_none (place_of_name bs rows) ≡ true
      → AreRowsSound n port (rows ++ row_of bs entry masks ∷ [])
  rows_entered rows bs entry masks sound lawful same below none = (
    all_entered (IsRowSound n port) rows (row_of bs entry masks) sound.0
        (row_of_sound bs entry masks lawful same below),
    each_two_entered (λ r r'. IsSameName (name_of r) (name_of r') → ⊥) rows (row_of bs entry masks)
        sound.1
        (subst (λ x. AllByRecursion (λ r. IsSameName (name_of r) x → ⊥) rows)
        (sym (name_row bs entry masks)) (searched_none bs rows none)),
  )

  -- and where one is removed
  pub rows_removed : (rows : List Row) (i : ℕ) → AreRowsSound n port rows
      → AreRowsSound n port (rows_without i rows)
  rows_removed rows i sound = (
    all_without (IsRowSound n port) rows i sound.0,
    each_two_without
        (λ r r'. IsSameName (name_of r) (name_of r') → ⊥) rows i sound.1,
  )
