-- A line that is read is spelled by the words of what it says.
use Rattle.std.proofs.Common.{◌≡◌, ℕ, ◌+◌, ◌<◌, Bool, true, false, cond, find, List, [], ◌∷◌, ◌++◌, length, drop, Option, Some, None, Ok, Err, Result, IfOk, refl, sym, ap, subst, ◌∙◌, arith, append-nil}
use Rattle.std.proofs.lemmas.Bool.{and_parts}
use Rattle.std.proofs.lemmas.Option.{none-some}
use Rattle.std.proofs.lemmas.Slice.Eq.{bytes_eq-Decides}
use Rattle.std.specs.Str.{bytes_eq}
use Rattle.refusal.specs.Chains.{unless}
use Rattle.refusal.proofs.ChainFacts.{and_then_ok, given_ok, same_ok, unless_ok}
use Rattle.lines.specs.Faults.{forms_of_store}
use Rattle.lines.specs.Forms.{a_pocket, Values, value}
use Rattle.lines.specs.Lines.{line_of, has_no_empty, is_well_formed, word_at, words_in}
use Rattle.lines.specs.Reading.{behind_own, behind_target, ends_at, misread_at, step_from, store_from, store_in, pocket_at, task_from, task_in, task_of, value_at, values_from}
use Rattle.lines.specs.Spelled.{ArePockets, pockets, pockets_in, store_words, target_pockets, target_words, task_words, words_of}
use Rattle.lines.specs.Steps.{TaskValues, read_as, store_values, task_values, with_own}
use Rattle.lines.specs.Verbs.{fills, own_forms, spelling, store_forms, store_word, verb_of, verbs}
use Rattle.lines.specs.Words.{pocket_text}
use Rattle.lines.specs.declared.error.Misread.{Misread}
use Rattle.lines.specs.declared.pocket.Pocket.{Pocket}
use Rattle.lines.specs.declared.step.Task.{Task}
use Rattle.lines.specs.declared.store_line.StoreLine.{StoreLine}
use Rattle.lines.specs.declared.verb.Verb.{Verb}
use Rattle.lines.proofs.SpelledFacts.{pocket_within, spelled_value, value_none}
use Rattle.lines.proofs.ValueFacts.{are_read, is_value, within_both, word_there, words_end, words_on}
use Rattle.lines.proofs.WordFacts.{words_joined}

-- what is found passes
find_passes : {A : Type 0} (p : A → Bool) (xs : List A) (x : A) → find p xs ≡ Some x → p x ≡ true
find_passes p [] x e = absurd (none-some x e)
find_passes p (y ∷ ys) x e = here (p y) refl e (find_passes p ys x)
  where
    here : (b : Bool) → p y ≡ b → cond b (Some y) (find p ys) ≡ Some x
        → (find p ys ≡ Some x → p x ≡ true) → p x ≡ true
    here true passes e later = let same : y ≡ x = cc in ap p (sym same) ∙ passes
    here false fails e later = later e

verb_spelled : (word : List ℕ) (verb : Verb) → verb_of word ≡ Some verb → spelling verb ≡ word
verb_spelled word verb e =
    (bytes_eq-Decides (spelling verb) word).0
    (find_passes (λ verb. bytes_eq (spelling verb) word) verbs verb e)

-- the pocket that is filled
record IsTarget (b : Bool) (i n : ℕ) (words : List (List ℕ)) (to : Option Pocket) : Type 0 where
  back : target_words to ++ drop (behind_target b i) words ≡ drop i words
  number : behind_target b n ≡ behind_target b i + 1
  within : ArePockets (target_pockets to)

is_target : (b : Bool) (i n : ℕ) (words : List (List ℕ)) (to : Option Pocket) → n ≡ i + 1
    → pocket_at b n words ≡ Ok to → IsTarget b i n words to
is_target false i n words to at e =
    subst (IsTarget false i n words) (same_ok e) (record { back = refl; number = at; within = tt })
is_target true i n words to at e =
    let (p, (here, same)) = and_then_ok (value_at a_pocket n words) (λ to. Ok (Some to)) to e in
    let is = is_value a_pocket n words p here in
    let there = word_there (value a_pocket n) n words p (value_none a_pocket n) is in
    subst (IsTarget true i n words) (same_ok same) (record {
      back =
          ap (λ word. word ∷ drop (i + 1) words) (spelled_value a_pocket n _ p is)
          ∙ words_on i n words at there;
      number = ap (λ k. k + 1) at;
      within = (pocket_within n (word_at words n) p is, tt);
    })

-- a task that is read: its words are the line, and its pockets are pockets
record IsTask (words : List (List ℕ)) (task : TaskValues) : Type 0 where
  back : task_words task ≡ words
  within : ArePockets (pockets task)

module _ (words : List (List ℕ)) (full : has_no_empty words ≡ true) where
  task_read : (verb : Verb) (task : TaskValues) → spelling verb ≡ word_at words 1 → 0 < length words
      → task_from verb words ≡ Ok task → IsTask words task
  task_read verb task named first e =
      let (c, (presented, behind)) = and_then_ok (value_at a_pocket 2 words) _ task e in
      let (step, (read, later)) = and_then_ok (step_from verb words) _ task behind in
      let (own, (values, made)) =
      and_then_ok (values_from (own_forms verb) 3 words) (λ own. Ok (with_own verb own)) step
      read in
      let (to, (target, last)) =
      and_then_ok (pocket_at (fills verb) (behind_own verb) words) _ task later in
      let (end, same) =
      unless_ok (ends_at (behind_target (fills verb) (behind_own verb)) words) _ _ task last in
      let is = is_value a_pocket 2 words c presented in
      let there = word_there (value a_pocket 2) 2 words c (value_none a_pocket 2) is in
      let rest = are_read (own_forms verb) 2 3 words own refl values in
      let filled =
      is_target (fills verb) (2 + length (own_forms verb)) (behind_own verb) words to
      (omega arith) target in
      let none : [] ≡ drop (behind_target (fills verb) (2 + length (own_forms verb))) words =
      words_end _ _ words filled.number full end in
      let own_back : words_of (own_forms verb) own ++ target_words to ≡ drop 2 words =
      ap (λ l. words_of (own_forms verb) own ++ l)
      (sym (append-nil (target_words to)) ∙ ap (λ l. target_words to ++ l) none ∙ filled.back)
      ∙ rest.back in
      let made_task : task_of c (with_own verb own) to ≡ task =
      ap (λ step. task_of c step to) (same_ok made) ∙ same_ok same in
      subst (IsTask words) made_task (record {
        back =
            ap (λ l. spelling verb ∷ pocket_text c ∷ l) own_back
            ∙ ap (λ word. spelling verb ∷ word ∷ drop 2 words) (spelled_value a_pocket 2 _ c is)
            ∙ ap (λ l. spelling verb ∷ l) (words_on 1 2 words refl there)
            ∙ ap (λ word. word ∷ drop 1 words) named ∙ words_on 0 1 words refl first;
        within = (
          pocket_within 2 (word_at words 2) c is,
          within_both (pockets_in (own_forms verb) own)
              (target_pockets to) rest.within filled.within,
        );
      })

  store_read : (store : Values store_forms) → store_word ≡ word_at words 1 → 0 < length words
      → store_from words ≡ Ok store → store_words store ≡ words
  store_read store named first e =
      let (own, (values, last)) =
      and_then_ok (values_from store_forms 2 words)
      (λ store. unless (ends_at 6 words) (misread_at 6) (Ok store)) store e in
      let (end, same) = unless_ok (ends_at 6 words) (misread_at 6) (Ok own) store last in
      let rest = are_read store_forms 1 2 words own refl values in
      let none : [] ≡ drop 5 words = words_end 5 6 words refl full end in
      ap store_words (sym (same_ok same))
      ∙ ap (λ l. store_word ∷ l)
      (sym (append-nil (words_of store_forms own))
      ∙ ap (λ l. words_of store_forms own ++ l) none ∙ rest.back)
      ∙ ap (λ word. word ∷ drop 1 words) named ∙ words_on 0 1 words refl first

-- so of a line
module _ (line : List ℕ) where
  abbrev these : List (List ℕ)
  these = words_in line

  formed_full : is_well_formed line ≡ true → has_no_empty these ≡ true
  formed_full formed = (and_parts _ _ (and_parts _ _ formed).1).1

  is_task : (task : TaskValues) → task_in line ≡ Ok task → IsTask these task
  is_task task e =
      let (formed, behind) = unless_ok (is_well_formed line) (misread_at 0) _ task e in
      let (verb, (named, read)) =
      given_ok (verb_of (word_at these 1)) (misread_at 1) (λ verb. task_from verb these) task
      behind in
      let there = word_there verb_of 1 these verb refl named in
      task_read these (formed_full formed) verb task (verb_spelled _ verb named) (omega arith) read

  is_store : (store : Values store_forms) → store_in line ≡ Ok store → store_words store ≡ these
  is_store store e =
      let (formed, behind) = unless_ok (is_well_formed line) (misread_at 0) _ store e in
      let (named, read) =
      unless_ok (bytes_eq store_word (word_at these 1)) (misread_at 1) (store_from these) store
      behind in
      let same = (bytes_eq-Decides store_word (word_at these 1)).0 named in
      store_read these (formed_full formed) store same
      (word_there forms_of_store 1 these store_forms refl
      (ap (λ b. cond b (Some store_forms) None) named)) read

  pub task_spelled : (r : Result Task Misread) → read_as task_values r ≡ task_in line
      → IfOk r (λ task. line_of (task_words (task_values task)) ≡ line)
  task_spelled (Ok task) e =
      ap line_of (is_task (task_values task) (sym e)).back ∙ words_joined line
  task_spelled (Err fault) e = tt

  pub task_within : (r : Result Task Misread) → read_as task_values r ≡ task_in line
      → IfOk r (λ task. ArePockets (pockets (task_values task)))
  task_within (Ok task) e = (is_task (task_values task) (sym e)).within
  task_within (Err fault) e = tt

  pub store_spelled : (r : Result StoreLine Misread) → read_as store_values r ≡ store_in line
      → IfOk r (λ store. line_of (store_words (store_values store)) ≡ line)
  store_spelled (Ok store) e =
      ap line_of (is_store (store_values store) (sym e)) ∙ words_joined line
  store_spelled (Err fault) e = tt
