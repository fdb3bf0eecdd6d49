-- A line taken through to its answer.
use Rattle.std.specs.Prelude.{ℕ, List, length, Some, None, Option, Ok, Err, Result, if◌then◌else◌}
use Rattle.lines.specs.AnswerLine.{line_over}
use Rattle.lines.specs.Tickets.{is_roomy}
use Rattle.lines.specs.declared.error.LineRefusal.{LineRefusal}
use Rattle.lines.specs.declared.error.LineRefusal.TheVariants.{ShortBuffer}
use Rattle.script.specs.AnswerLines.{told_line}
use Rattle.script.specs.Scripts.{Stage, is_closed, outcome_at}

-- what is given back, the answer buffer, and where the script is then
pub record Delivery : Type 0 where
  pub result : Result (Option ℕ) LineRefusal
  pub out : List ℕ
  pub after : Stage

abbrev pub delivery : Result (Option ℕ) LineRefusal → List ℕ → Stage → Delivery
delivery result out s = record { result = result; out = out; after = s }

-- the answer line stands at the front of the buffer, and its length is given
abbrev pub delivery_of_line : Stage → List ℕ → List ℕ → Delivery
delivery_of_line s line out =
    let answer = told_line (outcome_at s line).told in
    delivery (Ok (Some (length answer))) (line_over answer out) (outcome_at s line).after

-- a closed script takes no line; where the buffer is too short none is taken either, and nothing
-- changes
abbrev pub delivery_at : Stage → List ℕ → List ℕ → Delivery
delivery_at s line out =
    if is_closed s then delivery (Ok None) out s
    else (if is_roomy out then delivery_of_line s line out else delivery (Err ShortBuffer) out s)
