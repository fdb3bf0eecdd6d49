-- What is printed of a script, where the bytes of its reader and its writer are known.
use Rattle.std.specs.Prelude.{◌≡◌, ⊤, ℕ, List, [], ◌∷◌, ◌++◌, Option, Some, IfSome, if◌then◌else◌}
use Rattle.std.specs.Option.{option_map}
use Rattle.std.specs.Io.KnownBytes.{Appends}
use Rattle.script.specs.Scripts.{Stage, answers, is_closed, outcome_at}
use Rattle.text.specs.Lines.{lines_in}
use Rattle.console.specs.Lines.{text_of}
use Rattle.console.specs.declared.error.RunError.{RunError}
use Rattle.console.specs.declared.error.RunError.TheVariants.{Input, Output}

-- the lines that are left in the reader: those behind a first line that is refused, and else none
abbrev pub lines_left : Stage → List (List ℕ) → List (List ℕ)
lines_left s [] = []
lines_left s (line ∷ lines) =
    if is_closed s then line ∷ lines else lines_left (outcome_at s line).after lines

-- behind what the writer held come the answer lines of all lines that the reader had, and nothing
-- else; and no line is read that is not answered
abbrev pub PrintsAnswers : Stage → Option (List ℕ) → Option (List ℕ) → Option (List ℕ)
    → Option (List ℕ) → Type 0
PrintsAnswers s input left was is =
    IfSome input (λ xs.
    Appends was is (text_of (answers s (lines_in xs)))
    × (option_map lines_in left ≡ Some (lines_left s (lines_in xs))))

-- behind what the writer held comes the front of the answer lines of all lines that the reader had,
-- and nothing else
abbrev pub PrintsFront : Stage → Option (List ℕ) → Option (List ℕ) → Option (List ℕ) → Type 0
PrintsFront s input was is =
    IfSome input (λ xs. (told rest : List ℕ)
    × (Appends was is told × (text_of (answers s (lines_in xs)) ≡ told ++ rest)))

-- where the writer fails nothing is known of what it holds
abbrev pub WhereUnread : RunError → Type 0 → Type 0
WhereUnread (Input e) P = P
WhereUnread (Output e) P = ⊤
