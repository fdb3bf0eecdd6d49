-- What a line says as words again, and the pockets among them.
use Rattle.std.specs.Prelude.{ℕ, ◌<◌, List, [], ◌∷◌, ◌++◌, Some, None, Option}
use Rattle.std.specs.List.{AllByRecursion}
use Rattle.lines.specs.Forms.{Form, a_family, a_number, a_port, a_pocket, a_text, a_mask, Value, Values, word_of}
use Rattle.lines.specs.Steps.{TaskValues}
use Rattle.lines.specs.Verbs.{own_forms, spelling, store_forms, store_word}
use Rattle.lines.specs.Words.{pocket_text}
use Rattle.lines.specs.declared.pocket.Pocket.{Pocket}

-- the words of some values
abbrev pub words_of : (forms : List Form) → Values forms → List (List ℕ)
words_of [] values = []
words_of (form ∷ more) values = word_of form values.0 ∷ words_of more values.1

abbrev pub target_words : Option Pocket → List (List ℕ)
target_words (Some to) = pocket_text to ∷ []
target_words None = []

-- the words that say a task
abbrev pub task_words : TaskValues → List (List ℕ)
task_words task =
    spelling task.step.verb ∷ pocket_text task.presented
    ∷ (words_of (own_forms task.step.verb) task.step.own ++ target_words task.target)

-- the words that open a store
abbrev pub store_words : Values store_forms → List (List ℕ)
store_words store = store_word ∷ words_of store_forms store

-- the pockets among some values
abbrev pub pocket_in : (form : Form) → Value form → List Pocket
pocket_in a_family kind = []
pocket_in a_number n = []
pocket_in a_port bytes = []
pocket_in a_pocket pocket = pocket ∷ []
pocket_in a_text word = []
pocket_in a_mask mask = []

abbrev pub pockets_in : (forms : List Form) → Values forms → List Pocket
pockets_in [] values = []
pockets_in (form ∷ more) values = pocket_in form values.0 ++ pockets_in more values.1

abbrev pub target_pockets : Option Pocket → List Pocket
target_pockets (Some to) = to ∷ []
target_pockets None = []

-- the pockets of a task
abbrev pub pockets : TaskValues → List Pocket
pockets task =
    task.presented
    ∷ (pockets_in (own_forms task.step.verb) task.step.own ++ target_pockets task.target)

-- each is one of 64
abbrev pub ArePockets : List Pocket → Type 0
ArePockets pockets = AllByRecursion (λ pocket. pocket.index < 64) pockets
