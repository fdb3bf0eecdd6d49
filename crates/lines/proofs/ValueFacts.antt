-- Values that are read are those of the words from a number on.
use Rattle.std.proofs.Common.{◌≡◌, ℕ, ◌+◌, ◌-◌, ◌<◌, Bool, true, false, List, [], ◌∷◌, ◌++◌, not, eqb, length, drop, get_or, Option, Some, None, Ok, Err, Result, refl, sym, ap, subst, ◌∙◌, inl, inr, arith, add-one, drop-cons}
use Rattle.std.proofs.lemmas.Bool.{cases_lt, false≢true}
use Rattle.std.proofs.lemmas.List.{drop_all}
use Rattle.std.proofs.lemmas.List.Folds.{list_all_at}
use Rattle.std.proofs.lemmas.Option.{none-some}
use Rattle.std.proofs.Math.ListN.{get_or-eq_default}
use Rattle.refusal.specs.Chains.{and_then, unless}
use Rattle.refusal.proofs.ChainFacts.{and_then_ok, given_ok, same_ok}
use Rattle.lines.specs.Forms.{Form, a_family, a_number, a_port, a_pocket, a_text, a_mask, Value, Values, word_of, value}
use Rattle.lines.specs.Lines.{has_no_empty, word_at, words_in}
use Rattle.lines.specs.Reading.{ends_at, misread_at, step_from, store_from, value_at, values_from}
use Rattle.lines.specs.Spelled.{ArePockets, pocket_in, pockets_in, words_of}
use Rattle.lines.specs.Steps.{StepValues, with_own}
use Rattle.lines.specs.Verbs.{own_forms, store_forms}
use Rattle.lines.specs.declared.error.Misread.{Misread}
use Rattle.lines.specs.declared.pocket.Pocket.{Pocket}
use Rattle.lines.specs.declared.verb.Verb.{Verb}
use Rattle.lines.specs.declared.words.Words.{Words}
use Rattle.lines.proofs.SpelledFacts.{pocket_within, spelled_value, value_none}

-- ---- what is read where a cursor stands

pub at_word : (w : Words) (m : ℕ) (line : List ℕ) (form : Form) {r o : Result (Value form) Misread}
    → r ≡ value_at form w.number (words_in w.line.now)
    → w.number ≡ m → w.line.now ≡ line → r ≡ o → value_at form m (words_in line) ≡ o
at_word w m line form e number same is =
    ap (λ k. value_at form k (words_in line)) (sym number)
    ∙ ap (λ l. value_at form w.number (words_in l)) (sym same) ∙ sym e ∙ is

-- what is read for the verb that it is
pub of_verb : (verb is : Verb) (words : List (List ℕ)) (r : Result StepValues Misread) → verb ≡ is
    → r ≡ step_from is words → r ≡ step_from verb words
of_verb verb is words r same e = e ∙ ap (λ v. step_from v words) (sym same)

-- ---- values one after the other

-- each value is that of its word
abbrev pub AllAt : (forms : List Form) → Values forms → ℕ → List (List ℕ) → Type 0
AllAt [] values n words = Unit {0}
AllAt (form ∷ more) values n words =
    (value_at form n words ≡ Ok values.0) × AllAt more values.1 (n + 1) words

pub read_all : (forms : List Form) (values : Values forms) (n : ℕ) (words : List (List ℕ))
    → AllAt forms values n words → values_from forms n words ≡ Ok values
read_all [] values n words all = refl
read_all (form ∷ more) values n words all =
    ap (λ r. and_then r (λ v. and_then (values_from more (n + 1) words) (λ vs. Ok (v, vs)))) all.0
    ∙ ap (λ r. and_then r (λ vs. Ok (values.0, vs))) (read_all more values.1 (n + 1) words all.1)

-- the first fault behind some values
pub read_until : (front : List Form) (values : Values front) (form : Form) (more : List Form)
    (n m : ℕ) (words : List (List ℕ)) (fault : Misread)
    → AllAt front values n words → n + length front ≡ m → value_at form m words ≡ Err fault
    → values_from (front ++ form ∷ more) n words ≡ Err fault
read_until [] values form more n m words fault all at wrong =
    let here : n ≡ m = omega arith in
    ap (λ k. values_from (form ∷ more) k words) here
    ∙ ap (λ r. and_then r (λ v. and_then (values_from more (m + 1) words) (λ vs. Ok (v, vs)))) wrong
read_until (first ∷ front) values form more n m words fault all at wrong =
    ap (λ r. and_then r (λ v. and_then (values_from (front ++ form ∷ more) (n + 1) words)
    (λ vs. Ok (v, vs)))) all.0
    ∙ ap (λ r. and_then r (λ vs. Ok (values.0, vs)))
    (read_until front values.1 form more (n + 1) m words fault all.1 (omega arith) wrong)

-- ---- the words of values

-- the value of a word that is there
pub is_value : (form : Form) (n : ℕ) (words : List (List ℕ)) (v : Value form)
    → value_at form n words ≡ Ok v → value form n (word_at words n) ≡ Some v
is_value form n words v e =
    let (u, (is, same)) = given_ok (value form n (word_at words n)) (misread_at n) Ok v e in
    is ∙ ap Some (same_ok same)

-- a word from which something is read is there
pub word_there : {A : Type 0} (read : List ℕ → Option A) (number : ℕ) (words : List (List ℕ))
    (v : A) → read [] ≡ None → read (word_at words number) ≡ Some v
    → number - 1 < length words
word_there read number words v nothing e =
    elim (cases_lt (number - 1) (length words)) [
      | inl there ↦ there
      | inr past ↦
          let none : word_at words number ≡ [] = get_or-eq_default words [] (omega arith) in
          absurd (none-some v (sym nothing ∙ ap read (sym none) ∙ e))
    ]

-- the words from one that is there on
pub words_on : (i n : ℕ) (words : List (List ℕ)) → n ≡ i + 1 → n - 1 < length words
    → word_at words n ∷ drop (i + 1) words ≡ drop i words
words_on i n words at there =
    let here : n - 1 ≡ i = omega arith in
    let within : i < length words = omega arith in
    ap (λ k. get_or words k [] ∷ drop (i + 1) words) here
    ∙ ap (λ k. get_or words i [] ∷ drop k words) (add-one i) ∙ sym (drop-cons words i [] within)

-- where one is missing, none follow
pub words_end : (i n : ℕ) (words : List (List ℕ)) → n ≡ i + 1 → has_no_empty words ≡ true
    → eqb (length (word_at words n)) 0 ≡ true → [] ≡ drop i words
words_end i n words at full none =
    elim (cases_lt i (length words)) [
      | inl there ↦
          let here : n - 1 ≡ i = omega arith in
          let empty : not (eqb (length (get_or words i [])) 0) ≡ false =
          ap not (ap (λ k. eqb (length (get_or words k [])) 0) (sym here) ∙ none) in
          absurd (false≢true (sym (list_all_at (λ word. not (eqb (length word) 0)) words i [] there
          empty) ∙ full))
      | inr past ↦ sym (drop_all i words (omega arith))
    ]

pub within_both : (xs ys : List Pocket) → ArePockets xs → ArePockets ys → ArePockets (xs ++ ys)
within_both [] ys first second = second
within_both (x ∷ xs) ys first second = (first.0, within_both xs ys first.1 second)

pocket_in_within : (form : Form) (number : ℕ) (word : List ℕ) (v : Value form)
    → value form number word ≡ Some v → ArePockets (pocket_in form v)
pocket_in_within a_family number word v e = tt
pocket_in_within a_number number word v e = tt
pocket_in_within a_port number word v e = tt
pocket_in_within a_pocket number word v e = (pocket_within number word v e, tt)
pocket_in_within a_text number word v e = tt
pocket_in_within a_mask number word v e = tt

-- values of words from a number on, what is behind them, and that their pockets are pockets
pub record AreRead (forms : List Form) (i : ℕ) (words : List (List ℕ))
    (values : Values forms) : Type 0 where
  pub back : words_of forms values ++ drop (i + length forms) words ≡ drop i words
  pub within : ArePockets (pockets_in forms values)

pub are_read : (forms : List Form) (i n : ℕ) (words : List (List ℕ)) (values : Values forms)
    → n ≡ i + 1 → values_from forms n words ≡ Ok values → AreRead forms i words values
are_read [] i n words values at e =
    record { back = let same : i + 0 ≡ i = omega arith in ap (λ k. drop k words) same; within = tt }
are_read (form ∷ more) i n words values at e =
    let (v, (here, behind)) =
    and_then_ok (value_at form n words)
    (λ v. and_then (values_from more (n + 1) words) (λ vs. Ok (v, vs))) values e in
    let (vs, (later, both)) =
    and_then_ok (values_from more (n + 1) words) (λ vs. Ok (v, vs)) values behind in
    let is = is_value form n words v here in
    let there = word_there (value form n) n words v (value_none form n) is in
    let rest = are_read more (i + 1) (n + 1) words vs (omega arith) later in
    let ahead : i + length (form ∷ more) ≡ i + 1 + length more = omega arith in
    subst (AreRead (form ∷ more) i words) (same_ok both) (record {
      back =
          ap (λ k. word_of form v ∷ (words_of more vs ++ drop k words)) ahead
          ∙ ap (λ l. word_of form v ∷ l) rest.back
          ∙ ap (λ word. word ∷ drop (i + 1) words) (spelled_value form n _ v is)
          ∙ words_on i n words at there;
      within = within_both (pocket_in form v) _ (pocket_in_within form n _ v is) rest.within;
    })

-- what is read of a step's own words, or the first fault
pub own_all : (verb : Verb) (own : Values (own_forms verb)) (words : List (List ℕ))
    → AllAt (own_forms verb) own 3 words → Ok (with_own verb own) ≡ step_from verb words
own_all verb own words all =
    sym (ap (λ r. and_then r (λ own. Ok (with_own verb own)))
    (read_all (own_forms verb) own 3 words all))

pub own_until : (verb : Verb) (words : List (List ℕ)) (fault : Misread)
    → values_from (own_forms verb) 3 words ≡ Err fault → Err fault ≡ step_from verb words
own_until verb words fault e = sym (ap (λ r. and_then r (λ own. Ok (with_own verb own))) e)

-- ---- the end of a line

ended : {A : Type 0} (b : Bool) (fault : Misread) (a : A) (r : Result (Unit {0}) Misread)
    → unless b fault (Ok tt) ≡ r → and_then r (λ u. Ok a) ≡ unless b fault (Ok a)
ended true fault a r e = ap (λ r. and_then r (λ u. Ok a)) (sym e)
ended false fault a r e = ap (λ r. and_then r (λ u. Ok a)) (sym e)

pub at_end : (w : Words) (m : ℕ) (line : List ℕ) {r o : Result (Unit {0}) Misread}
    → r ≡ unless (ends_at w.number (words_in w.line.now)) (misread_at w.number) (Ok tt)
    → w.number ≡ m → w.line.now ≡ line → r ≡ o
    → unless (ends_at m (words_in line)) (misread_at m) (Ok tt) ≡ o
at_end w m line e number same is =
    ap (λ k. unless (ends_at k (words_in line)) (misread_at k) (Ok tt)) (sym number)
    ∙ ap (λ l. unless (ends_at w.number (words_in l)) (misread_at w.number) (Ok tt)) (sym same)
    ∙ sym e ∙ is

-- what is read of a line that opens a store, or the first fault
pub store_all : (store : Values store_forms) (words : List (List ℕ)) (r : Result (Unit {0}) Misread)
    → AllAt store_forms store 2 words
    → unless (ends_at 6 words) (misread_at 6) (Ok tt) ≡ r
    → and_then r (λ u. Ok store) ≡ store_from words
store_all store words r all end =
    ended (ends_at 6 words) (misread_at 6) store r end
    ∙ sym (ap (λ r. and_then r (λ store. unless (ends_at 6 words) (misread_at 6) (Ok store)))
    (read_all store_forms store 2 words all))

pub store_until : (words : List (List ℕ)) (fault : Misread)
    → values_from store_forms 2 words ≡ Err fault → Err fault ≡ store_from words
store_until words fault e =
    sym (ap (λ r. and_then r (λ store. unless (ends_at 6 words) (misread_at 6) (Ok store))) e)
