-- The first fault of a line, in words.
use Rattle.std.specs.Prelude.{◌≡◌, ℕ, ◌+◌, ◌-◌, ◌<◌, ◌≤◌, Bool, true, false, List, length, Some, None, Option, ◌==◌, option_map, if◌then◌else◌}
use Rattle.std.specs.List.{slice_get}
use Rattle.std.specs.Option.{is_some}
use Rattle.std.specs.Str.{bytes_eq}
use Rattle.lines.specs.Forms.{Form, value}
use Rattle.lines.specs.Lines.{is_well_formed, word_at, words_in}
use Rattle.lines.specs.Verbs.{step_forms, store_forms, store_word, verb_of}

-- the forms of the words behind a first word, if it may stand there: that of a step
abbrev pub forms_of_step : List ℕ → Option (List Form)
forms_of_step word = option_map step_forms (verb_of word)

-- or the one that opens a store
abbrev pub forms_of_store : List ℕ → Option (List Form)
forms_of_store word = if bytes_eq store_word word then Some store_forms else None

-- the word of a number fits its form, or is missing where none is wanted
abbrev pub fits : Option Form → ℕ → List ℕ → Bool
fits None number word = length word == 0
fits (Some form) number word = is_some (value form number word)

-- the word of a number is right; the first form is that of word 2
abbrev pub is_right : List Form → List (List ℕ) → ℕ → Bool
is_right forms words number = fits (slice_get forms (number - 2)) number (word_at words number)

-- the line is malformed; or its first word may not stand there; or this word behind it is not
-- right, is one past the words at most, and each earlier one is right
pub data IsFirstFault (forms_of : List ℕ → Option (List Form)) (line : List ℕ) : ℕ → Type 0 where
  malformed : is_well_formed line ≡ false → IsFirstFault forms_of line 0
  unknown : is_well_formed line ≡ true → forms_of (word_at (words_in line) 1) ≡ None
      → IsFirstFault forms_of line 1
  wrong : (forms : List Form) (place : ℕ) → is_well_formed line ≡ true
      → forms_of (word_at (words_in line) 1) ≡ Some forms
      → 2 ≤ place → place ≤ length (words_in line) + 1
      → ((i : ℕ) → 2 ≤ i → i < place → is_right forms (words_in line) i ≡ true)
      → is_right forms (words_in line) place ≡ false → IsFirstFault forms_of line place
