-- Whole scripts: the first line opens the store, and each later one is carried out. A first line
-- that is refused closes the script.
use Rattle.std.specs.Prelude.{ℕ, Bool, true, false, List, [], ◌∷◌, Ok, Err, Result, if◌then◌else◌}
use Rattle.refusal.specs.declared.Refusal.{Refusal}
use Rattle.memory.specs.Soundness.{Content}
use Rattle.store.specs.Requests.{Told}
use Rattle.lines.specs.Refusals.{line_refusal}
use Rattle.lines.specs.declared.error.LineRefusal.TheVariants.{BadLine}
use Rattle.script.specs.AnswerLines.{told_line}
use Rattle.script.specs.Opening.{outcome_of_first}
use Rattle.script.specs.Sessions.{LineOutcome, SessionState}
use Rattle.script.specs.Tasks.{outcome_of_line}

-- where a script is: before its first line, over memory that holds anything; in its session; or
-- closed
pub data Stage : Type 0 where
  before : Content → Stage
  during : SessionState → Stage
  closed : Stage

abbrev pub is_closed : Stage → Bool
is_closed (before m) = false
is_closed (during s) = false
is_closed closed = true

-- what is told there of a line, and where the script is then
pub record ScriptOutcome : Type 0 where
  pub told : Result Told Refusal
  pub after : Stage

abbrev pub script_outcome : Result Told Refusal → Stage → ScriptOutcome
script_outcome told s = record { told = told; after = s }

-- the first line, once it is known what it comes to
abbrev pub after_first : Result LineOutcome Refusal → ScriptOutcome
after_first (Ok o) = script_outcome o.told (during o.after)
after_first (Err refusal) = script_outcome (Err refusal) closed

-- a line behind the end would stand out of place, but none is taken there
abbrev pub outcome_at : Stage → List ℕ → ScriptOutcome
outcome_at (before m) line = after_first (outcome_of_first m line)
outcome_at (during s) line =
    script_outcome (outcome_of_line s line).told (during (outcome_of_line s line).after)
outcome_at closed line = script_outcome (Err (line_refusal (BadLine 1))) closed

-- the answer lines of the lines of a script: one each, until it is closed
abbrev pub answers : Stage → List (List ℕ) → List (List ℕ)
answers s [] = []
answers s (line ∷ lines) =
    if is_closed s then []
    else (told_line (outcome_at s line).told ∷ answers (outcome_at s line).after lines)

-- where the script is behind its lines
abbrev pub stage_after : Stage → List (List ℕ) → Stage
stage_after s [] = s
stage_after s (line ∷ lines) = stage_after (outcome_at s line).after lines
