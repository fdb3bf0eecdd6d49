-- The place of a fault is that of the first word that is not right.
use Rattle.std.proofs.Common.{◌≡◌, ℕ, suc, ◌+◌, ◌-◌, ◌<◌, ◌≤◌, Bool, true, false, cond, List, [], ◌∷◌, ◌++◌, length, Option, Some, None, Ok, Err, Result, IfErr, refl, sym, ap, subst, ◌∙◌, inl, inr, arith}
use Rattle.std.specs.List.{slice_get}
use Rattle.std.specs.Option.{is_some, option_map}
use Rattle.std.specs.Str.{bytes_eq}
use Rattle.std.proofs.lemmas.Bool.{cases_eq}
use Rattle.refusal.specs.Chains.{and_then, unless}
use Rattle.refusal.proofs.ChainFacts.{and_then_ok, never_ok}
use Rattle.lines.specs.Faults.{IsFirstFault, fits, forms_of_step, forms_of_store, malformed, unknown, wrong}
use Rattle.lines.specs.Forms.{Form, a_pocket, Value, Values, value}
use Rattle.lines.specs.Lines.{is_well_formed, word_at, words_in}
use Rattle.lines.specs.Reading.{behind_own, behind_target, ends_at, misread_at, step_from, store_from, store_in, pocket_at, task_from, task_in, task_of, value_at, values_from}
use Rattle.lines.specs.Steps.{StepValues, TaskValues, read_as, store_values, task_values, with_own}
use Rattle.lines.specs.Verbs.{fills, own_forms, step_forms, store_forms, store_word, verb_of}
use Rattle.lines.specs.declared.error.Misread.{Misread}
use Rattle.lines.specs.declared.pocket.Pocket.{Pocket}
use Rattle.lines.specs.declared.step.Task.{Task}
use Rattle.lines.specs.declared.store_line.StoreLine.{StoreLine}
use Rattle.lines.specs.declared.verb.Verb.{Verb}
use Rattle.lines.proofs.ChainFacts.{and_then_err, given_err, unless_err}
use Rattle.lines.proofs.SpelledFacts.{value_none}
use Rattle.lines.proofs.ValueFacts.{is_value, word_there}

-- ---- the first word that is not right

-- of those from a number on
abbrev first_fault : List Form → ℕ → List (List ℕ) → Option ℕ
first_fault [] n words = cond (ends_at n words) None (Some n)
first_fault (form ∷ more) n words =
    cond (is_some (value form n (word_at words n))) (first_fault more (n + 1) words) (Some n)

-- none is not right before it
record FirstWrong (forms : List Form) (n : ℕ) (words : List (List ℕ)) (place : ℕ) : Type 0 where
  least : n ≤ place
  most : place ≤ length words + 1
  before : (i : ℕ) → n ≤ i → i < place → fits (slice_get forms (i - n)) i (word_at words i) ≡ true
  here : fits (slice_get forms (place - n)) place (word_at words place) ≡ false

module _ (words : List (List ℕ)) where
  -- the first of them
  first_wrong : (forms : List Form) (n : ℕ) → n ≤ length words + 1
      → fits (slice_get forms 0) n (word_at words n) ≡ false → FirstWrong forms n words n
  first_wrong forms n most fails = record {
    least = omega arith;
    most = most;
    before = λ i from to. absurd (omega arith);
    here = let none : n - n ≡ 0 = omega arith in
        ap (λ k. fits (slice_get forms k) n (word_at words n)) none ∙ fails;
  }

  -- a later one
  later_wrong : (form : Form) (more : List Form) (n place : ℕ)
      → is_some (value form n (word_at words n)) ≡ true → FirstWrong more (n + 1) words place
      → FirstWrong (form ∷ more) n words place
  later_wrong form more n place right later = record {
    least = omega (arith, later.least);
    most = later.most;
    before = λ i from to. elim (cases_eq i n) [
      | inl same ↦ let none : i - n ≡ 0 = omega arith in
          ap (λ k. fits (slice_get (form ∷ more) k) i (word_at words i)) none
          ∙ ap (λ k. is_some (value form k (word_at words k))) same ∙ right
      | inr other ↦ let one : i - n ≡ suc (i - (n + 1)) = omega arith in
          ap (λ k. fits (slice_get (form ∷ more) k) i (word_at words i)) one
          ∙ later.before i (omega arith) to
    ];
    here = let one : place - n ≡ suc (place - (n + 1)) = omega (arith, later.least) in
        ap (λ k. fits (slice_get (form ∷ more) k) place (word_at words place)) one ∙ later.here;
  }

  fault_wrong : (forms : List Form) (n place : ℕ) → n ≤ length words + 1
      → first_fault forms n words ≡ Some place → FirstWrong forms n words place
  fault_wrong [] n place most e = at (ends_at n words) refl e
    where
      at : (b : Bool) → ends_at n words ≡ b → cond b None (Some n) ≡ Some place
          → FirstWrong [] n words place
      at true is e = absurd (cc)
      at false is e = let same : n ≡ place = cc in
          subst (FirstWrong [] n words) same (first_wrong [] n most is)
  fault_wrong (form ∷ more) n place most e =
      at (value form n (word_at words n)) refl e (fault_wrong more (n + 1) place)
    where
      at : (o : Option (Value form)) → value form n (word_at words n) ≡ o
          → cond (is_some o) (first_fault more (n + 1) words) (Some n) ≡ Some place
          → (n + 1 ≤ length words + 1 → first_fault more (n + 1) words ≡ Some place
          → FirstWrong more (n + 1) words place) → FirstWrong (form ∷ more) n words place
      at None is e later = let same : n ≡ place = cc in
          subst (FirstWrong (form ∷ more) n words) same
          (first_wrong (form ∷ more) n most (ap is_some is))
      at (Some v) is e later =
          let there = word_there (value form n) n words v (value_none form n) is in
          later_wrong form more n place (ap is_some is) (later (omega arith) e)

  -- ---- where a reading is refused

  value_wrong : (form : Form) (more : List Form) (n : ℕ) (fault : Misread)
      → value_at form n words ≡ Err fault → first_fault (form ∷ more) n words ≡ Some fault.place
  value_wrong form more n fault e =
      elim (given_err (value form n (word_at words n)) (misread_at n) Ok fault e) [
        | inl h ↦ ap (λ o. cond (is_some o) (first_fault more (n + 1) words) (Some n)) h.0
            ∙ ap (λ (f : Misread). Some f.place) h.1
        | inr (v, (is, later)) ↦ never_ok fault v (sym later)
      ]

  value_right : (form : Form) (more : List Form) (n : ℕ) (v : Value form)
      → value_at form n words ≡ Ok v
      → first_fault (form ∷ more) n words ≡ first_fault more (n + 1) words
  value_right form more n v e =
      ap (λ o. cond (is_some o) (first_fault more (n + 1) words) (Some n))
      (is_value form n words v e)

  values_wrong : (forms more : List Form) (n : ℕ) (fault : Misread)
      → values_from forms n words ≡ Err fault
      → first_fault (forms ++ more) n words ≡ Some fault.place
  values_wrong [] more n fault e = never_ok fault tt (sym e)
  values_wrong (form ∷ rest) more n fault e =
      elim (and_then_err (value_at form n words)
      (λ v. and_then (values_from rest (n + 1) words) (λ vs. Ok (v, vs))) fault e) [
        | inl here ↦ value_wrong form (rest ++ more) n fault here
        | inr (v, (is, behind)) ↦ elim
            (and_then_err (values_from rest (n + 1) words) (λ vs. Ok (v, vs)) fault behind) [
              | inl later ↦ value_right form (rest ++ more) n v is
                  ∙ values_wrong rest more (n + 1) fault later
              | inr (vs, (all, none)) ↦ never_ok fault (v, vs) (sym none)
            ]
      ]

  values_right : (forms more : List Form) (n : ℕ) (values : Values forms)
      → values_from forms n words ≡ Ok values
      → first_fault (forms ++ more) n words ≡ first_fault more (n + length forms) words
  values_right [] more n values e = let same : n ≡ n + 0 = omega arith in
      ap (λ k. first_fault more k words) same
  values_right (form ∷ rest) more n values e =
      let (v, (here, behind)) =
      and_then_ok (value_at form n words)
      (λ v. and_then (values_from rest (n + 1) words) (λ vs. Ok (v, vs))) values e in
      let (vs, (later, both)) =
      and_then_ok (values_from rest (n + 1) words) (λ vs. Ok (v, vs)) values behind in
      let ahead : n + 1 + length rest ≡ n + length (form ∷ rest) = omega arith in
      value_right form (rest ++ more) n v here ∙ values_right rest more (n + 1) vs later
      ∙ ap (λ k. first_fault more k words) ahead

  end_wrong : {A : Type 0} (n : ℕ) (a : A) (fault : Misread)
      → unless (ends_at n words) (misread_at n) (Ok a) ≡ Err fault
      → first_fault [] n words ≡ Some fault.place
  end_wrong n a fault e = elim (unless_err (ends_at n words) (misread_at n) (Ok a) fault e) [
    | inl h ↦ ap (λ b. cond b None (Some n)) h.0 ∙ ap (λ (f : Misread). Some f.place) h.1
    | inr h ↦ never_ok fault a (sym h.1)
  ]

  target_wrong : (b : Bool) (n : ℕ) (fault : Misread) → pocket_at b n words ≡ Err fault
      → first_fault (cond b (a_pocket ∷ []) []) n words ≡ Some fault.place
  target_wrong false n fault e = never_ok fault None (sym e)
  target_wrong true n fault e =
      elim (and_then_err (value_at a_pocket n words) (λ to. Ok (Some to)) fault e) [
        | inl here ↦ value_wrong a_pocket [] n fault here
        | inr (to, (is, none)) ↦ never_ok fault (Some to) (sym none)
      ]

  target_right : (b : Bool) (n : ℕ) (to : Option Pocket) → pocket_at b n words ≡ Ok to
      → first_fault (cond b (a_pocket ∷ []) []) n words ≡ first_fault [] (behind_target b n) words
  target_right false n to e = refl
  target_right true n to e =
      let (p, (here, same)) = and_then_ok (value_at a_pocket n words) (λ to. Ok (Some to)) to e in
      value_right a_pocket [] n p here

  abbrev target : Verb → List Form
  target verb = cond (fills verb) (a_pocket ∷ []) []

  -- the pocket that is filled, and the end
  abbrev closing : Verb → Pocket → StepValues → Option Pocket → Result TaskValues Misread
  closing verb c step to =
      let last = behind_target (fills verb) (behind_own verb) in
      unless (ends_at last words) (misread_at last) (Ok (task_of c step to))

  abbrev behind : Verb → Pocket → StepValues → Result TaskValues Misread
  behind verb c step =
      and_then (pocket_at (fills verb) (behind_own verb) words) (closing verb c step)

  behind_wrong : (verb : Verb) (c : Pocket) (step : StepValues) (fault : Misread)
      → behind verb c step ≡ Err fault
      → first_fault (target verb) (behind_own verb) words ≡ Some fault.place
  behind_wrong verb c step fault e =
      elim (and_then_err (pocket_at (fills verb) (behind_own verb) words) (closing verb c step)
      fault e) [
        | inl at ↦ target_wrong (fills verb) (behind_own verb) fault at
        | inr (to, (is, last)) ↦ target_right (fills verb) (behind_own verb) to is
            ∙ end_wrong _ _ fault last
      ]

  own_wrong : (verb : Verb) (c : Pocket) (fault : Misread)
      → and_then (step_from verb words) (behind verb c) ≡ Err fault
      → first_fault (own_forms verb ++ target verb) 3 words ≡ Some fault.place
  own_wrong verb c fault e = elim (and_then_err (step_from verb words) (behind verb c) fault e) [
    | inl early ↦ elim (and_then_err (values_from (own_forms verb) 3 words)
        (λ own. Ok (with_own verb own)) fault early) [
          | inl at ↦ values_wrong (own_forms verb) (target verb) 3 fault at
          | inr (own, (is, none)) ↦ never_ok fault (with_own verb own) (sym none)
        ]
    | inr (step, (read, later)) ↦
        let (own, (is, same)) =
        and_then_ok (values_from (own_forms verb) 3 words) (λ own. Ok (with_own verb own)) step
        read in
        values_right (own_forms verb) (target verb) 3 own is ∙ behind_wrong verb c step fault later
  ]

  task_wrong : (verb : Verb) (fault : Misread) → task_from verb words ≡ Err fault
      → first_fault (step_forms verb) 2 words ≡ Some fault.place
  task_wrong verb fault e =
      elim (and_then_err (value_at a_pocket 2 words)
      (λ c. and_then (step_from verb words) (behind verb c)) fault e) [
        | inl at ↦ value_wrong a_pocket (own_forms verb ++ target verb) 2 fault at
        | inr (c, (is, later)) ↦ value_right a_pocket (own_forms verb ++ target verb) 2 c is
            ∙ own_wrong verb c fault later
      ]

  store_wrong : (fault : Misread) → store_from words ≡ Err fault
      → first_fault store_forms 2 words ≡ Some fault.place
  store_wrong fault e =
      elim (and_then_err (values_from store_forms 2 words)
      (λ store. unless (ends_at 6 words) (misread_at 6) (Ok store)) fault e) [
        | inl at ↦ values_wrong store_forms [] 2 fault at
        | inr (store, (is, last)) ↦ values_right store_forms [] 2 store is
            ∙ end_wrong 6 store fault last
      ]

-- ---- the first fault of a line

module _ (line : List ℕ) where
  abbrev these : List (List ℕ)
  these = words_in line

  behind_first : (forms_of : List ℕ → Option (List Form)) (forms : List Form) (fault : Misread)
      → is_well_formed line ≡ true → forms_of (word_at these 1) ≡ Some forms
      → forms_of [] ≡ None → first_fault forms 2 these ≡ Some fault.place
      → IsFirstFault forms_of line fault.place
  behind_first forms_of forms fault formed named nothing e =
      let there = word_there forms_of 1 these forms nothing named in
      let first = fault_wrong these forms 2 fault.place (omega arith) e in
      wrong forms fault.place formed named first.least first.most first.before first.here

  task_faulty : (fault : Misread) → task_in line ≡ Err fault
      → IsFirstFault forms_of_step line fault.place
  task_faulty fault e = elim (unless_err (is_well_formed line) (misread_at 0) _ fault e) [
    | inl h ↦ subst (λ (f : Misread). IsFirstFault forms_of_step line f.place) h.1 (malformed h.0)
    | inr (formed, behind) ↦ elim
        (given_err (verb_of (word_at these 1)) (misread_at 1) (λ verb. task_from verb these) fault
        behind) [
          | inl h ↦ subst (λ (f : Misread). IsFirstFault forms_of_step line f.place) h.1
              (unknown formed (ap (option_map step_forms) h.0))
          | inr (verb, (named, read)) ↦ behind_first forms_of_step (step_forms verb) fault formed
              (ap (option_map step_forms) named) refl (task_wrong these verb fault read)
        ]
  ]

  store_line_faulty : (fault : Misread) → store_in line ≡ Err fault
      → IsFirstFault forms_of_store line fault.place
  store_line_faulty fault e = elim (unless_err (is_well_formed line) (misread_at 0) _ fault e) [
    | inl h ↦ subst (λ (f : Misread). IsFirstFault forms_of_store line f.place) h.1 (malformed h.0)
    | inr (formed, behind) ↦ elim
        (unless_err (bytes_eq store_word (word_at these 1)) (misread_at 1) (store_from these) fault
        behind) [
          | inl h ↦ subst (λ (f : Misread). IsFirstFault forms_of_store line f.place) h.1
              (unknown formed (ap (λ b. cond b (Some store_forms) None) h.0))
          | inr (named, read) ↦ behind_first forms_of_store store_forms fault formed
              (ap (λ b. cond b (Some store_forms) None) named) refl (store_wrong these fault read)
        ]
  ]

  pub step_faulty : (r : Result Task Misread) → read_as task_values r ≡ task_in line
      → IfErr r (λ fault. IsFirstFault forms_of_step line fault.place)
  step_faulty (Ok task) e = tt
  step_faulty (Err fault) e = task_faulty fault (sym e)

  pub store_faulty : (r : Result StoreLine Misread) → read_as store_values r ≡ store_in line
      → IfErr r (λ fault. IsFirstFault forms_of_store line fault.place)
  store_faulty (Ok store) e = tt
  store_faulty (Err fault) e = store_line_faulty fault (sym e)
