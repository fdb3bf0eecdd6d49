-- What a line says, as plain values: of a step its verb, and a value for each of its own words.
use Rattle.std.specs.Prelude.{Option, Ok, Err, Result}
use Rattle.lines.specs.Forms.{Values}
use Rattle.lines.specs.Verbs.{own_forms, store_forms}
use Rattle.lines.specs.Words.{numbered_word}
use Rattle.lines.specs.declared.error.Misread.{Misread}
use Rattle.lines.specs.declared.pocket.Pocket.{Pocket}
use Rattle.lines.specs.declared.step.Step.{Step}
use Rattle.lines.specs.declared.step.Step.TheVariants as step
use Rattle.lines.specs.declared.step.Task.{Task}
use Rattle.lines.specs.declared.store_line.StoreLine.{StoreLine}
use Rattle.lines.specs.declared.verb.Verb.{Verb}
use Rattle.lines.specs.declared.verb.Verb.TheVariants.{File, Directory, Read, Size, Drop, Give, Enter, Remove, LookUp, Walk, Row, Name, Destroy, Revoke}

pub record StepValues : Type 0 where
  pub verb : Verb
  pub own : Values (own_forms verb)

abbrev pub with_own : (verb : Verb) → Values (own_forms verb) → StepValues
with_own verb own = record { verb = verb; own = own }

-- the fields of a step, in the order of their words
abbrev pub step_values : Step → StepValues
step_values (step.File secret text) = with_own File (secret, (numbered_word text, tt))
step_values (step.Directory secret) = with_own Directory (secret, tt)
step_values step.Read = with_own Read tt
step_values step.Size = with_own Size tt
step_values (step.Drop right) = with_own Drop (right, tt)
step_values step.Give = with_own Give tt
step_values (step.Enter name entry works inspector buyer) =
    with_own Enter (numbered_word name, (entry, (works, (inspector, (buyer, tt)))))
step_values (step.Remove name) = with_own Remove (numbered_word name, tt)
step_values (step.LookUp name) = with_own LookUp (numbered_word name, tt)
step_values (step.Walk path) = with_own Walk (numbered_word path, tt)
step_values (step.Row n) = with_own Row (n, tt)
step_values (step.Name entry) = with_own Name (entry, tt)
step_values step.Destroy = with_own Destroy tt
step_values (step.Revoke secret) = with_own Revoke (secret, tt)

-- a step with the pocket of the capability presented, and the pocket that it fills, if it fills one
pub record TaskValues : Type 0 where
  pub presented : Pocket
  pub step : StepValues
  pub target : Option Pocket

abbrev pub task_values : Task → TaskValues
task_values task = record {
  presented = task.presented;
  step = step_values task.step;
  target = task.target;
}

abbrev pub store_values : StoreLine → Values store_forms
store_values line = (line.family, (line.modulus, (line.port, (line.secret, tt))))

-- what was read, as plain values
abbrev pub read_as : {A B : Type 0} → (A → B) → Result A Misread → Result B Misread
read_as values (Ok a) = Ok (values a)
read_as values (Err fault) = Err fault
