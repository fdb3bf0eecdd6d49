-- A table: a list of records, each live or free, and the place after the last one given.
use Rattle.std.specs.Prelude.{◌≡◌, ℕ, ◌+◌, ◌-◌, ◌%◌, ◌<◌, Bool, true, false, if◌then◌else◌, nat_lt, not, List, length, Some, None, Option, MatchOption, ◌≢◌, slice_set, slice_get}
use Rattle.table.specs.Lowest.{lowest}

-- a record, if there is one and it is live
abbrev pub live_or_none : {X : Type 0} → (X → Bool) → Option X → Option X
live_or_none live (Some x) = if live x then Some x else None
live_or_none live None = None

-- the record at a place where it is live
abbrev pub live_record : {X : Type 0} → (X → Bool) → List X → ℕ → Option X
live_record live xs place = live_or_none live (slice_get xs place)

-- there is a record, and it is live
abbrev pub is_some_live : {X : Type 0} → (X → Bool) → Option X → Bool
is_some_live live (Some x) = live x
is_some_live live None = false

-- there is a live record at a place
abbrev pub is_live_at : {X : Type 0} → (X → Bool) → List X → ℕ → Bool
is_live_at live xs place = is_some_live live (slice_get xs place)

-- finding, in words: the record at the place, which is live; or nothing, and there is no live
-- record there
abbrev pub IsLiveRecord : {X : Type 0} → (X → Bool) → List X → ℕ → Option X → Type 0
IsLiveRecord live xs place r =
    MatchOption r (is_live_at live xs place ≡ false)
    (λ x. (slice_get xs place ≡ Some x) × (live x ≡ true))

-- the place so many steps on from `next` among n places, going round
abbrev pub place_on : ℕ → ℕ → ℕ → ℕ
place_on next n steps = (next + steps) % n

-- how many steps on from `next` a place is among n places, going round
abbrev pub steps_to : ℕ → ℕ → ℕ → ℕ
steps_to next n place = (place + (n - next % n)) % n

-- the record so many steps on from `next` is free
abbrev pub is_free_on : {X : Type 0} → (X → Bool) → List X → ℕ → ℕ → Bool
is_free_on live xs next steps = not (is_live_at live xs (place_on next (length xs) steps))

-- the place that a number of steps leads to, if there is such a number
abbrev pub place_after : ℕ → ℕ → Option ℕ → Option ℕ
place_after next n (Some steps) = Some (place_on next n steps)
place_after next n None = None

-- the place to claim: the one with the fewest steps from `next` at which the record is free
abbrev pub claimed_place : {X : Type 0} → (X → Bool) → List X → ℕ → Option ℕ
claimed_place live xs next =
    place_after next (length xs) (lowest (is_free_on live xs next) (length xs))

-- p is a place that is free, and every place that comes before it, going round from `next`, is live
pub record IsFirstFree {X : Type 0} (live : X → Bool) (xs : List X) (next p : ℕ) : Type 0 where
  pub within : p < length xs
  pub free : is_live_at live xs p ≡ false
  pub passed : (q : ℕ) → q < length xs → steps_to next (length xs) q < steps_to next (length xs) p
      → is_live_at live xs q ≡ true

-- claiming, in words: the first free place; or nothing, and every place is live
abbrev pub IsClaimedPlace : {X : Type 0} → (X → Bool) → List X → ℕ → Option ℕ → Type 0
IsClaimedPlace live xs next r =
    MatchOption r ((q : ℕ) → q < length xs → is_live_at live xs q ≡ true) (IsFirstFree live xs next)

-- the records with the blank of x at a place, if there is such an x
abbrev pub with_blank : {X : Type 0} → (X → X) → List X → ℕ → Option X → List X
with_blank blank xs place (Some x) = slice_set xs place (blank x)
with_blank blank xs place None = xs

-- the records with the one at a place freed
abbrev pub with_freed : {X : Type 0} → (X → X) → List X → ℕ → List X
with_freed blank xs place = with_blank blank xs place (slice_get xs place)

-- freeing, in words: there are as many records, none is live at the place, and every other place
-- holds what it held
pub record IsFreed {X : Type 0} (live : X → Bool) (before after : List X) (place : ℕ) : Type 0 where
  pub size : length after ≡ length before
  pub free : is_live_at live after place ≡ false
  pub others : (q : ℕ) → q ≢ place → slice_get after q ≡ slice_get before q

-- where the next claim begins, once a place among so many was given: behind it, if it is there
abbrev pub claim_after : ℕ → ℕ → ℕ → ℕ
claim_after count place next = if nat_lt place count then place + 1 else next
