-- What holds of claiming and of freeing.
use Rattle.std.proofs.Common.{◌≡◌, ℕ, ◌+◌, ◌-◌, ◌%◌, ◌<◌, ◌≤◌, Bool, true, false, not, List, [], ◌∷◌, length, get_or, take, drop, Some, None, Option, sym, refl, ap, ◌∙◌, subst, ⊎_elim, arith}
use Rattle.std.specs.List.{position, prefix_len}
use Rattle.std.specs.Option.{MatchOption}
use Rattle.std.proofs.lemmas.Option.{MatchOption-at_some, MatchOption-at_none, slice_get-get_or}
use Rattle.std.proofs.lemmas.List.Sums.{prefix_len_passes, prefix_len_stops}
use Rattle.std.proofs.lemmas.List.{length-drop, length-take-le}
use Rattle.std.proofs.lemmas.Bool.{not-true, not-false, cases_lt, cond-true, cond-false, lt-ltb, le-ltb}
use Rattle.table.specs.Lowest.{lowest, NoneBelow, IsLowest}
use Rattle.table.specs.Table.{place_on, steps_to, is_live_at, is_free_on, place_after, claimed_place, IsClaimedPlace, is_some_live}
use Rattle.table.proofs.LowestFacts.{is_lowest, lowest_unique}
use Rattle.table.proofs.Reading.{nth-take, nth-drop}
use Rattle.table.proofs.Rounds.{place_short, place_past, place_below, place_steps, steps_place, steps_below}

-- the record at a place is free
abbrev pub free_at : {X : Type 0} → (X → Bool) → List X → ℕ → Bool
free_at live xs place = not (is_live_at live xs place)

-- the first record that is free stands at the lowest place that is
lowest_free : {X : Type 0} (live : X → Bool) (xs : List X)
    → IsLowest (free_at live xs) (length xs) (position (λ x. not (live x)) xs)
lowest_free live [] = λ i h. absurd (omega arith)
lowest_free {X} live (x ∷ rest) = ⊎_elim there nowhere (cases_lt first (length xs))
  where
    xs : List X
    xs = x ∷ rest

    kept : X → Bool
    kept y = not (not (live y))

    first : ℕ
    first = prefix_len kept xs

    at : (i : ℕ) → i < length xs → free_at live xs i ≡ not (live (get_or xs i x))
    at i h = ap (λ o. not (is_some_live live o)) (slice_get-get_or xs i x h)

    below : (i : ℕ) → i < first → i < length xs → free_at live xs i ≡ false
    below i h k = at i k ∙ not-true (not (live (get_or xs i x))) (prefix_len_passes kept xs i x h)

    there : first < length xs
        → IsLowest (free_at live xs) (length xs) (position (λ y. not (live y)) xs)
    there l =
        subst (λ (o : Option ℕ). IsLowest (free_at live xs) (length xs) o)
        (sym (cond-true _ _ _ (lt-ltb _ _ l))) (
          l,
          at first l ∙ not-false (not (live (get_or xs first x))) (prefix_len_stops kept xs x l),
          λ i h. below i h (omega arith),
        )

    nowhere : length xs ≤ first
        → IsLowest (free_at live xs) (length xs) (position (λ y. not (live y)) xs)
    nowhere l =
        subst (λ (o : Option ℕ). IsLowest (free_at live xs) (length xs) o)
        (sym (cond-false _ _ _ (le-ltb _ _ l)))
        (λ i h. below i (omega arith) h)

-- claiming
module _ {X : Type 0} (live : X → Bool) (xs : List X) (next : ℕ) where
  live_before : (s q : ℕ) → NoneBelow (is_free_on live xs next) s → q < length xs
      → steps_to next (length xs) q < s → is_live_at live xs q ≡ true
  live_before s q none h l =
      subst (λ (p : ℕ). is_live_at live xs p ≡ true) (place_steps next (length xs) q h)
      (not-false (is_live_at live xs (place_on next (length xs) (steps_to next (length xs) q)))
      (none (steps_to next (length xs) q) l))

  claimed_by : (o : Option ℕ) → IsLowest (is_free_on live xs next) (length xs) o
      → IsClaimedPlace live xs next (place_after next (length xs) o)
  claimed_by None none = λ q h. live_before (length xs) q none h (steps_below next (length xs) q h)
  claimed_by (Some s) (h, e, none) = record {
    within = place_below next (length xs) s h;
    free = not-true (is_live_at live xs (place_on next (length xs) s)) e;
    passed = λ q k l. live_before s q none k (omega (arith, steps_place next (length xs) s h));
  }

  placed_lowest : (o : Option ℕ) → IsLowest (is_free_on live xs next) (length xs) o
      → place_after next (length xs) o ≡ claimed_place live xs next
  placed_lowest o h =
      ap (place_after next (length xs)) (lowest_unique (is_free_on live xs next) (length xs) o h)

  -- among no places there is none to claim
  pub claimed_of_none : length xs ≡ 0 → None ≡ claimed_place live xs next
  claimed_of_none e = placed_lowest None (λ i h. absurd (omega arith))

  -- the records from the start on come first, and then those before it
  free_ahead : (s : ℕ) → next % length xs + s < length xs
      → is_free_on live xs next s ≡ free_at live (drop (next % length xs) xs) s
  free_ahead s h =
      ap (λ p. not (is_live_at live xs p)) (place_short next (length xs) s h)
      ∙ ap (λ o. not (is_some_live live o)) (sym (nth-drop xs (next % length xs) s))

  place_round : (p : ℕ) → next % length xs < length xs → p < next % length xs
      → place_on next (length xs) (length xs - next % length xs + p) ≡ p
  place_round p a h =
      place_past next (length xs) (length xs - next % length xs + p) (omega arith) (omega arith)
      ∙ omega arith

  free_round :
      (p : ℕ) → next % length xs < length xs → p < next % length xs →
      is_free_on live xs next (length xs - next % length xs + p)
      ≡ free_at live (take (next % length xs) xs) p
  free_round p a h =
      ap (λ q. not (is_live_at live xs q)) (place_round p a h)
      ∙ ap (λ o. not (is_some_live live o)) (sym (nth-take xs (next % length xs) p h))

  claimed_ahead :
      (s : ℕ) → IsLowest (free_at live (drop (next % length xs) xs))
      (length (drop (next % length xs) xs)) (Some s) →
      Some (next % length xs + s) ≡ claimed_place live xs next
  claimed_ahead s (h, e, none) =
      let size = length-drop (next % length xs) xs in
      ap Some (sym (place_short next (length xs) s (omega arith)))
      ∙ placed_lowest (Some s) (
        omega arith,
        free_ahead s (omega arith) ∙ e,
        λ i l. free_ahead i (omega arith)
            ∙ none i l,
      )

  none_round :
      (m : ℕ) → next % length xs < length xs → m ≤ next % length xs →
      NoneBelow (free_at live (drop (next % length xs) xs)) (length (drop (next % length xs) xs)) →
      NoneBelow (free_at live (take (next % length xs) xs)) m →
      NoneBelow (is_free_on live xs next) (length xs - next % length xs + m)
  none_round m a h ahead round i l =
      let size = length-drop (next % length xs) xs in
      ⊎_elim (λ s. free_ahead i (omega arith) ∙ ahead i (omega arith))
      (λ s. let k : i ≡ length xs - next % length xs + (i - (length xs - next % length xs)) =
      omega arith in
      ap (is_free_on live xs next) k
      ∙ free_round (i - (length xs - next % length xs)) a (omega arith)
      ∙ round (i - (length xs - next % length xs)) (omega arith))
      (cases_lt i (length xs - next % length xs))

  claimed_round :
      (r : Option ℕ) → next % length xs < length xs →
      NoneBelow (free_at live (drop (next % length xs) xs)) (length (drop (next % length xs) xs)) →
      IsLowest (free_at live (take (next % length xs) xs)) (length (take (next % length xs) xs)) r →
      r ≡ claimed_place live xs next
  claimed_round None a ahead round =
      let size = length-take-le (next % length xs) xs (omega arith) in
      placed_lowest None (λ i l. none_round (next % length xs) a (omega arith) ahead
      (λ k h. round k (omega arith)) i (omega arith))
  claimed_round (Some p) a ahead (h, e, none) =
      let size = length-take-le (next % length xs) xs (omega arith) in
      ap Some (sym (place_round p a (omega arith)))
      ∙ placed_lowest (Some (length xs - next % length xs + p))
      (omega arith, free_round p a (omega arith) ∙ e, none_round p a (omega arith) ahead none)

  -- the first free place from the start on, and else the first one before it
  pub claimed_by_parts :
      (start : ℕ) (before from : List X) (ahead place_after round : Option ℕ) →
      start ≡ next % length xs → next % length xs < length xs → before ≡ take start xs
      → from ≡ drop start xs →
      ahead ≡ position (λ x. not (live x)) from →
      MatchOption ahead (place_after ≡ None) (λ s. place_after ≡ Some (start + s)) →
      MatchOption place_after (round ≡ position (λ x. not (live x)) before) (λ p. round ≡ Some p) →
      round ≡ claimed_place live xs next
  claimed_by_parts start before from ahead place_after round at a b f first mapped tried =
      by_ahead ahead refl
    where
      -- the start itself, for the parts and what is first in each
      parted : (free_on_part : List X) (o : Option ℕ)
          → o ≡ position (λ x. not (live x)) free_on_part
          → IsLowest (free_at live free_on_part) (length free_on_part) o
      parted ys o e =
          subst (λ (r : Option ℕ). IsLowest (free_at live ys) (length ys) r) (sym e)
          (lowest_free live ys)

      by_ahead : (o : Option ℕ) → ahead ≡ o → round ≡ claimed_place live xs next
      by_ahead (Some s) e =
          let h =
          subst (λ (ys : List X). IsLowest (free_at live ys) (length ys) (Some s))
          (f ∙ ap (λ n. drop n xs) at) (parted from (Some s) (sym e ∙ first)) in
          MatchOption-at_some _ _ _ (MatchOption-at_some _ _ s e mapped) tried
          ∙ ap (λ n. Some (n + s)) at ∙ claimed_ahead s h
      by_ahead None e =
          claimed_round round a
          (subst (λ (ys : List X). NoneBelow (free_at live ys) (length ys))
          (f ∙ ap (λ n. drop n xs) at) (parted from None (sym e ∙ first)))
          (subst (λ (ys : List X). IsLowest (free_at live ys) (length ys) round)
          (b ∙ ap (λ n. take n xs) at)
          (parted before round (MatchOption-at_none _ _ (MatchOption-at_none _ _ e mapped) tried)))

  -- in words
  pub is_claimed : (r : Option ℕ) → r ≡ claimed_place live xs next → IsClaimedPlace live xs next r
  is_claimed r e =
      subst (λ (o : Option ℕ). IsClaimedPlace live xs next o) (sym e)
      (claimed_by (lowest (is_free_on live xs next) (length xs))
      (is_lowest (is_free_on live xs next) (length xs)))
