-- Which line says what: one table of forms, and one reading for all of them.
use Rattle.std.specs.Prelude.{ℕ, ◌+◌, Bool, true, false, List, [], ◌∷◌, length, Some, None, Option, Ok, Result, ◌==◌}
use Rattle.std.specs.Str.{bytes_eq}
use Rattle.refusal.specs.Chains.{and_then, given, unless}
use Rattle.lines.specs.Forms.{Form, a_pocket, Value, Values, value}
use Rattle.lines.specs.Lines.{is_well_formed, word_at, words_in}
use Rattle.lines.specs.Steps.{StepValues, TaskValues, with_own}
use Rattle.lines.specs.Verbs.{fills, own_forms, store_forms, store_word, verb_of}
use Rattle.lines.specs.declared.error.Misread.{Misread}
use Rattle.lines.specs.declared.pocket.Pocket.{Pocket}
use Rattle.lines.specs.declared.verb.Verb.{Verb}

-- the fault at a place
abbrev pub misread_at : ℕ → Misread
misread_at place = record { place = place }

-- the value that the word of a number has in a form, or the fault there
abbrev pub value_at : (form : Form) → ℕ → List (List ℕ) → Result (Value form) Misread
value_at form number words = given (value form number (word_at words number)) (misread_at number) Ok

-- the values of the words from a number on, or the first fault
abbrev pub values_from : (forms : List Form) → ℕ → List (List ℕ) → Result (Values forms) Misread
values_from [] number words = Ok tt
values_from (form ∷ more) number words =
    and_then (value_at form number words) (λ v.
    and_then (values_from more (number + 1) words) (λ vs. Ok (v, vs)))

-- the pocket that is filled, where one is to be filled
abbrev pub pocket_at : Bool → ℕ → List (List ℕ) → Result (Option Pocket) Misread
pocket_at true number words = and_then (value_at a_pocket number words) (λ to. Ok (Some to))
pocket_at false number words = Ok None

-- no word is too many: there is none of this number
abbrev pub ends_at : ℕ → List (List ℕ) → Bool
ends_at number words = length (word_at words number) == 0

-- the own words of a step stand behind its verb and its first pocket
abbrev pub step_from : Verb → List (List ℕ) → Result StepValues Misread
step_from verb words =
    and_then (values_from (own_forms verb) 3 words) (λ own. Ok (with_own verb own))

-- the number of the word behind them
abbrev pub behind_own : Verb → ℕ
behind_own verb = 3 + length (own_forms verb)

abbrev pub task_of : Pocket → StepValues → Option Pocket → TaskValues
task_of presented step target = record { presented = presented; step = step; target = target }

abbrev pub behind_target : Bool → ℕ → ℕ
behind_target true number = number + 1
behind_target false number = number

-- the words behind a verb
abbrev pub task_from : Verb → List (List ℕ) → Result TaskValues Misread
task_from verb words =
    and_then (value_at a_pocket 2 words) (λ presented.
    and_then (step_from verb words) (λ step.
    and_then (pocket_at (fills verb) (behind_own verb) words) (λ target.
    let last = behind_target (fills verb) (behind_own verb) in
    unless (ends_at last words) (misread_at last) (Ok (task_of presented step target)))))

-- the words behind the one that opens a store
abbrev pub store_from : List (List ℕ) → Result (Values store_forms) Misread
store_from words =
    and_then (values_from store_forms 2 words) (λ store.
    unless (ends_at 6 words) (misread_at 6) (Ok store))

-- a line as a whole, its first word, and then the words behind it
abbrev pub task_in : List ℕ → Result TaskValues Misread
task_in line =
    unless (is_well_formed line) (misread_at 0)
    (given (verb_of (word_at (words_in line) 1)) (misread_at 1) (λ verb.
    task_from verb (words_in line)))

-- the same for a line that opens a store
abbrev pub store_in : List ℕ → Result (Values store_forms) Misread
store_in line =
    unless (is_well_formed line) (misread_at 0)
    (unless (bytes_eq store_word (word_at (words_in line) 1)) (misread_at 1)
    (store_from (words_in line)))
