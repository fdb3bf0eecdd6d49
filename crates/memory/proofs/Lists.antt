-- Tests of whole lists, by what the library's searches answer.
use Rattle.std.proofs.Common.{◌≡◌, Bool, true, false, not, cond, ◌&&◌, List, [], ◌∷◌, Some, None, Option, MatchOption, option_map, Iter, Bor, refl, sym, ap, ◌∙◌, inl, inr}
use Rattle.std.specs.Bool.{⊤}
use Rattle.std.specs.List.{list_all, find, FoldsTo}
use Rattle.std.specs.Fn.{Mut, Called, CalledAt}
use Rattle.std.specs.Iterator.{YieldsThen}
use Rattle.std.specs.Slice.Iter.{iter_rest}
use Rattle.std.proofs.iter.Yields.{fronts}
use Rattle.std.proofs.lemmas.Bool.{and_from, and_left, and_right, cases_Bool}
use Rattle.std.proofs.lemmas.Iterator.{YieldsList-from_slice}
use Rattle.std.proofs.lemmas.Iterator.Search.{all_from_yields_List, find_from_yields_List}
use Rattle.std.specs.List.{list_all}
use Rattle.memory.specs.EachTwo.{pairwise}

-- `all` over a slice answers the test of the whole list
pub every_from_all : {A F : Type 0} {g : Mut F (Bor A × Unit {0}) Bool} {s : Iter A} (p : A → Bool)
    (u : Iter A) (f : F) (r : Bool) (all : List A)
    → (xs : List (Bor A)) × (o : Option (Bor A)) × (j : F) × YieldsThen fronts s xs o u
    × FoldsTo (λ q x q'. Called g q (x, tt) true q') f xs j
    × MatchOption o (r ≡ true) (λ x. (r ≡ false) × ((h : F) × Called g j (x, tt) false h))
    → iter_rest s ≡ all → ((x : Bor A) (b : Bool) (q : F) → Called g f (x, tt) b q
    → (q ≡ f) × (b ≡ p x.now)) → r ≡ list_all p all
every_from_all p u f r all ran rest computes =
    all_from_yields_List p u f r ran (YieldsList-from_slice all rest) computes

-- two tests, where the first passed
pub passed_and : (a b r : Bool) → a ≡ true → r ≡ b → r ≡ (a && b)
passed_and a b r e f = f ∙ ap (λ x. x && b) (sym e)

-- the first element with the later ones, and each two of those
module _ {A : Type 0} (q : A → A → Bool) (xs later : List A) (x : A) (e : xs ≡ x ∷ later) where
  pub first_agrees : list_all (q x) later ≡ true → pairwise q later ≡ pairwise q xs
  first_agrees t =
      passed_and (list_all (q x) later) (pairwise q later) (pairwise q later) t refl
      ∙ ap (pairwise q) (sym e)

  pub first_differs : list_all (q x) later ≡ false → pairwise q xs ≡ false
  first_differs t = ap (pairwise q) e ∙ and_left (list_all (q x) later) (pairwise q later) t

module _ {A : Type 0} (p : A → Bool) where
  -- there is no element that fails, so the whole list passes
  none_fails : (xs : List A) → find (λ x. not (p x)) xs ≡ None → list_all p xs ≡ true
  none_fails [] e = refl
  none_fails (x ∷ xs) e = elim (cases_Bool (p x)) [
    | inl t ↦ and_from (p x) (list_all p xs) t
        (none_fails xs (sym (ap (λ b. cond (not b) (Some x) (find (λ y. not (p y)) xs)) t) ∙ e))
    | inr f ↦ let none : Some x ≡ None =
        sym (ap (λ b. cond (not b) (Some x) (find (λ y. not (p y)) xs)) f) ∙ e in absurd (cc)
  ]

  -- an element that fails, and the whole list fails any test that it fails
  one_fails : (xs : List A) (y : A) → find (λ x. not (p x)) xs ≡ Some y
      → (p y ≡ false) × ((t : A → Bool) → t y ≡ false → list_all t xs ≡ false)
  one_fails [] y e = absurd (cc)
  one_fails (x ∷ xs) y e = elim (cases_Bool (p x)) [
    | inl t ↦
        let rest =
        one_fails xs y (sym (ap (λ b. cond (not b) (Some x) (find (λ y. not (p y)) xs)) t)
        ∙ e) in
        (rest.0, λ u h. and_right (u x) (list_all u xs) (rest.1 u h))
    | inr f ↦
        let one : Some x ≡ Some y =
        sym (ap (λ b. cond (not b) (Some x) (find (λ y. not (p y)) xs)) f) ∙ e in
        let same : x ≡ y = cc in
        (ap p (sym same) ∙ f, λ u h. and_left (u x) (list_all u xs) (ap u same ∙ h))
  ]

  failing : (xs : List A) (r : Option (Bor A))
      → option_map (λ y. y.now) r ≡ find (λ x. not (p x)) xs
      → MatchOption r (list_all p xs ≡ true)
      (λ y. (p y.now ≡ false) × ((t : A → Bool) → t y.now ≡ false → list_all t xs ≡ false))
  failing xs None e = none_fails xs (sym e)
  failing xs (Some y) e = one_fails xs y.now (sym e)

-- `find` over a slice, for an element that fails a test: there is none, or one that any test fails
-- with
pub failing_from_find : {A F : Type 0} {g : Mut F (Bor (Bor A) × Unit {0}) Bool} {s : Iter A}
    (p : A → Bool) (u : Iter A) (f : F) (r : Option (Bor A)) (all : List A)
    → (xs : List (Bor A)) × (j : F) × YieldsThen fronts s xs r u
    × FoldsTo (λ q x q'. CalledAt g q x false q') f xs j
    × MatchOption r ⊤ (λ x. (h : F) × CalledAt g j x true h)
    → iter_rest s ≡ all → ((x : Bor A) (b : Bool) (q : F) → CalledAt g f x b q
    → (q ≡ f) × (b ≡ not (p x.now)))
    → MatchOption r (list_all p all ≡ true)
    (λ y. (p y.now ≡ false) × ((t : A → Bool) → t y.now ≡ false → list_all t all ≡ false))
failing_from_find p u f r all ran rest computes =
    failing p all r (find_from_yields_List (λ x. not (p x)) u f r ran
    (YieldsList-from_slice all rest) computes)
