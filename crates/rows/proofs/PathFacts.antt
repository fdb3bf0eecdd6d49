-- Paths taken apart one name at a time.
use Rattle.std.proofs.Common.{◌≡◌, ◌≢◌, ℕ, suc, ◌+◌, ◌-◌, ◌<◌, ◌≤◌, Bool, true, false, cond, ◌&&◌, eqb, ltb, leb, List, [], ◌∷◌, length, take, drop, get_or, option_map, Some, None, Option, refl, sym, ap, subst, ◌∙◌, inl, inr, arith, length-drop}
use Rattle.std.specs.List.{All, AllByRecursion, position, position_or_len, list_all, onto_first}
use Rattle.std.proofs.lemmas.Bool.{cond-true, cond-false, lt-ltb, le-leb, lt-leb, ne_eqb, eq-eqb, false≢true, and_left, and_right, and_from, cases_lt}
use Rattle.std.proofs.lemmas.Grind.{common_steps}
use Rattle.std.proofs.lemmas.List.{take_all}
use Rattle.std.proofs.lemmas.List.Splits.{slice_split_none, slice_split_at, slice_split_first, join_with_byte-slice_split}
use Rattle.std.proofs.lemmas.List.Elements.{All-from_recursion}
use Rattle.std.proofs.lemmas.List.Sums.{fails_before_first}
use Rattle.memory.specs.Names.{is_lawful_name}
use Rattle.rows.specs.Paths.{names_in, first_name, rest_of_path, names_in_rest, path_of, IsPartedInto}

-- the place of the first slash, or the length
abbrev slash_in : List ℕ → ℕ
slash_in path = position_or_len (λ b. eqb b 47) path

module _ (path : List ℕ) where
  -- a path with a slash
  module _ (h : slash_in path < length path) where
    position_slash : position (λ b. eqb b 47) path ≡ Some (slash_in path)
    position_slash =
        cond-true (ltb (slash_in path) (length path)) _ _ (lt-ltb (slash_in path) (length path) h)

    after_slash : rest_of_path path ≡ Some (drop (slash_in path + 1) path)
    after_slash = ap (option_map (λ slash. drop (slash + 1) path)) position_slash

    step_slash : names_in path ≡ first_name path ∷ names_in_rest (rest_of_path path)
    step_slash =
        slice_split_first (λ b. eqb b 47) path 0 h
        ∙ sym (ap (λ r. first_name path ∷ names_in_rest r) after_slash)

  -- a path with none
  module _ (h : length path ≤ slash_in path) where
    position_none : position (λ b. eqb b 47) path ≡ None
    position_none = cond-false (ltb (slash_in path) (length path)) _ _ (grind (arith, common_steps))

    after_none : rest_of_path path ≡ None
    after_none = ap (option_map (λ slash. drop (slash + 1) path)) position_none

    first_all : first_name path ≡ path
    first_all = take_all (slash_in path) path h

    step_none : names_in path ≡ first_name path ∷ names_in_rest (rest_of_path path)
    step_none =
        slice_split_none (λ b. eqb b 47) path
        (λ i d l. fails_before_first (λ b. eqb b 47) path i d (omega arith))
        ∙ sym (ap (λ r. first_name path ∷ names_in_rest r) after_none ∙ ap (λ n. n ∷ []) first_all)

-- a path has the name before its first slash, and then those behind it
pub names_step : (path : List ℕ)
    → names_in path ≡ first_name path ∷ names_in_rest (rest_of_path path)
names_step path =
    elim (cases_lt (slash_in path) (length path))
    [ inl h ↦ step_slash path h | inr h ↦ step_none path (omega arith) ]

-- what stands behind the first slash is shorter
pub after_shorter : (path r : List ℕ) → rest_of_path path ≡ Some r → length r < length path
after_shorter path r e = elim (cases_lt (slash_in path) (length path)) [
  | inl h ↦ let same : Some (drop (slash_in path + 1) path) ≡ Some r =
      sym (after_slash path h) ∙ e in
      let at : drop (slash_in path + 1) path ≡ r = cc in
      subst (λ r. length r < length path) at (omega (arith, length-drop (slash_in path + 1) path))
  | inr h ↦ let never : None ≡ Some r = sym (after_none path (omega arith)) ∙ e in absurd (cc)
]

-- the first slash found at a place
module _ (path : List ℕ) where
  pub first_found : (k : ℕ) → position (λ b. eqb b 47) path ≡ Some k → take k path ≡ first_name path
  first_found k e = elim (cases_lt (slash_in path) (length path)) [
    | inl h ↦ let same : Some (slash_in path) ≡ Some k = sym (position_slash path h) ∙ e in
        let at : slash_in path ≡ k = cc in
        ap (λ k. take k path) (sym at)
    | inr h ↦ let never : None ≡ Some k = sym (position_none path (omega arith)) ∙ e in absurd (cc)
  ]

  pub after_found : (k : ℕ) → position (λ b. eqb b 47) path ≡ Some k
      → Some (take (length path - (k + 1)) (drop (k + 1) path)) ≡ rest_of_path path
  after_found k e =
      ap (λ r. Some r) (take_all (length path - (k + 1)) (drop (k + 1) path)
      (omega (arith, length-drop (k + 1) path)))
      ∙ sym (ap (option_map (λ slash. drop (slash + 1) path)) e)

  -- or at none
  pub first_not_found : position (λ b. eqb b 47) path ≡ None → path ≡ first_name path
  first_not_found e = elim (cases_lt (slash_in path) (length path)) [
    | inl h ↦ let never : Some (slash_in path) ≡ None = sym (position_slash path h) ∙ e in
        absurd (cc)
    | inr h ↦ sym (first_all path (omega arith))
  ]

  pub after_not_found : position (λ b. eqb b 47) path ≡ None → None ≡ rest_of_path path
  after_not_found e = sym (ap (option_map (λ slash. drop (slash + 1) path)) e)

-- the judgement of a path from which some lawful names are taken
abbrev pub judged : ℕ → List ℕ → Bool
judged taken rest =
    leb (taken + length (names_in rest)) 16 && list_all is_lawful_name (names_in rest)

module _ (taken : ℕ) (rest : List ℕ) where
  abbrev with_rest : Option (List ℕ) → Bool
  with_rest r =
      leb (taken + suc (length (names_in_rest r))) 16
      && (is_lawful_name (first_name rest) && list_all is_lawful_name (names_in_rest r))

  -- the same, one name apart
  apart : judged taken rest ≡ with_rest (rest_of_path rest)
  apart =
      ap (λ names. leb (taken + length names) 16 && list_all is_lawful_name names) (names_step rest)

  pub first_fails : is_lawful_name (first_name rest) ≡ false → false ≡ judged taken rest
  first_fails h = sym (apart ∙ and_right _ _ (and_left _ _ h))

  pub last_passes : is_lawful_name (first_name rest) ≡ true → rest_of_path rest ≡ None → taken < 16
      → true ≡ judged taken rest
  last_passes h e l =
      sym (apart ∙ ap with_rest e
      ∙ and_from (leb (taken + 1) 16) _ (le-leb (taken + 1) 16 (omega arith))
      (and_from (is_lawful_name (first_name rest)) true h refl))

  pub judged_later : (later : List ℕ) → is_lawful_name (first_name rest) ≡ true
      → rest_of_path rest ≡ Some later → judged (taken + 1) later ≡ judged taken rest
  judged_later later h e =
      let more : taken + suc (length (names_in later)) ≡ taken + 1 + length (names_in later) =
      omega arith in
      sym (apart ∙ ap with_rest e
      ∙ ap (λ lawful. leb (taken + suc (length (names_in later))) 16
      && (lawful && list_all is_lawful_name (names_in later))) h
      ∙ ap (λ count. leb count 16 && list_all is_lawful_name (names_in later)) more)

  pub too_many : 16 ≤ taken → false ≡ judged taken rest
  too_many h =
      sym (apart ∙ and_left _ _
      (lt-leb (taken + suc (length (names_in_rest (rest_of_path rest)))) 16 (omega arith)))

-- no byte of a name is a slash
abbrev Slashless : List ℕ → Type 0
Slashless name = AllByRecursion (λ b. b ≢ 47) name

-- one more byte before names without a slash
slashless_behind : (b : ℕ) (names : List (List ℕ)) (is : Bool) → eqb b 47 ≡ is
    → AllByRecursion Slashless names
    → AllByRecursion Slashless (cond is ([] ∷ names) (onto_first b names))
slashless_behind b names true e all = (tt, all)
slashless_behind b [] false e all = ((λ same. false≢true (sym e ∙ eq-eqb b 47 same), tt), tt)
slashless_behind b (name ∷ names) false e all =
    ((λ same. false≢true (sym e ∙ eq-eqb b 47 same), all.0), all.1)

slashless_names : (path : List ℕ) → AllByRecursion Slashless (names_in path)
slashless_names [] = (tt, tt)
slashless_names (b ∷ path) =
    slashless_behind b (names_in path) (eqb b 47) refl (slashless_names path)

-- the definition keeps its words
pub parted : (path : List ℕ) → IsPartedInto path (names_in path)
parted path = record {
  some = subst (λ names. 0 < length names) (sym (names_step path)) (omega arith);
  slashless = slashless_names path;
  back = join_with_byte-slice_split 47 path;
}

-- none of its bytes passes the test
all_other : (name : List ℕ) → Slashless name → All (λ b. eqb b 47 ≡ false) name
all_other name all i d l =
    ne_eqb (get_or name i d) 47 (All-from_recursion (λ b. b ≢ 47) name all i d l)

-- names without a slash are those in what they make when joined
names_joined : (name : List ℕ) (names : List (List ℕ)) → AllByRecursion Slashless (name ∷ names)
    → names_in (path_of (name ∷ names)) ≡ name ∷ names
names_joined name [] all = slice_split_none (λ b. eqb b 47) name (all_other name all.0)
names_joined name (next ∷ names) all =
    slice_split_at (λ b. eqb b 47) name 47 (path_of (next ∷ names)) (all_other name all.0) refl
    ∙ ap (λ later. name ∷ later) (names_joined next names all.1)

-- and the words leave no other names
pub parted_only : (path : List ℕ) (names : List (List ℕ)) → IsPartedInto path names
    → names ≡ names_in path
parted_only path [] words = absurd (omega (arith, words.some))
parted_only path (name ∷ names) words =
    sym (names_joined name names words.slashless) ∙ ap names_in words.back
