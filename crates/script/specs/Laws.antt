-- What holds of all scripts, whatever their lines.
use Rattle.std.specs.Prelude.{◌≡◌, ◌≢◌, ℕ, suc, List, [], ◌∷◌, ◌++◌, length, get_or, Some, None, Ok, Err}
use Rattle.refusal.specs.declared.Refusal.{Refusal}
use Rattle.memory.specs.Soundness.{Content}
use Rattle.lines.specs.Steps.{TaskValues}
use Rattle.lines.specs.declared.pocket.Pocket.{Pocket}
use Rattle.script.specs.AnswerLines.{told_line}
use Rattle.script.specs.Opening.{outcome_of_first}
use Rattle.script.specs.Scripts.{Stage, answers, before, during, stage_after}
use Rattle.script.specs.Sessions.{LineOutcome, SessionState}
use Rattle.script.specs.Tasks.{outcome_of_line, task_outcome}

-- each line has its answer: as many answer lines as lines, in a session; and so from the first line
-- on, if that is not refused
pub record OneForEach : Type 0 where
  pub in_session : (s : SessionState) (lines : List (List ℕ))
      → length (answers (during s) lines) ≡ length lines
  pub from_the_first : (m : Content) (line : List ℕ) (lines : List (List ℕ)) (o : LineOutcome)
      → outcome_of_first m line ≡ Ok o
      → length (answers (before m) (line ∷ lines)) ≡ suc (length lines)

-- a first line that is refused has its answer, and no other line has one
abbrev pub RefusedFirst : Type 0
RefusedFirst = (m : Content) (line : List ℕ) (lines : List (List ℕ)) (refusal : Refusal)
    → outcome_of_first m line ≡ Err refusal
    → answers (before m) (line ∷ lines) ≡ told_line (Err refusal) ∷ []

-- answers come in the order of the lines: those of the lines before come first, and do not depend
-- on what follows
abbrev pub InOrder : Type 0
InOrder = (s : Stage) (lines later : List (List ℕ))
    → answers s (lines ++ later) ≡ answers s lines ++ answers (stage_after s lines) later

-- a line of a session that is refused changes nothing: neither pocket nor store nor memory
abbrev pub RefusedChangesNothing : Type 0
RefusedChangesNothing = (s : SessionState) (line : List ℕ) (refusal : Refusal)
    → (outcome_of_line s line).told ≡ Err refusal → (outcome_of_line s line).after ≡ s

-- a step changes no pocket but its target
abbrev pub OnlyTheTarget : Type 0
OnlyTheTarget = (s : SessionState) (task : TaskValues) (i : ℕ)
    → ((to : Pocket) → task.target ≡ Some to → i ≢ to.index)
    → get_or (task_outcome s task).after.pockets i None ≡ get_or s.pockets i None

pub record LawsOfScripts : Type 0 where
  pub one_for_each : OneForEach
  pub refused_first : RefusedFirst
  pub in_order : InOrder
  pub refused_changes_nothing : RefusedChangesNothing
  pub only_the_target : OnlyTheTarget
