-- What the code's scripts stand for, over memory.
use Rattle.std.specs.Prelude.{Ok, Err, Result}
use Rattle.family.specs.Commuting.{Family}
use Rattle.family.specs.contracts.dickson.DicksonCommutingFamily.TheImpl.{ghosts as in_dickson}
use Rattle.family.specs.contracts.powers.PowersCommutingFamily.TheImpl.{ghosts as in_powers}
use Rattle.refusal.specs.declared.Refusal.{Refusal}
use Rattle.memory.specs.Held.{content}
use Rattle.memory.specs.declared.memory.Memory.{Memory}
use Rattle.store.specs.Requests.{granted}
use Rattle.script.specs.Scripts.{ScriptOutcome, Stage, before, closed, during, script_outcome}
use Rattle.script.specs.Sessions.{LineOutcome, line_outcome, session_state}
use Rattle.script.specs.declared.opening.Begun.{Begun}
use Rattle.script.specs.declared.script.Script.{Script}
use Rattle.script.specs.declared.stage.Stage.{Stage as MadeStage}
use Rattle.script.specs.declared.stage.Stage.TheVariants.{Waiting, Powers, Dickson, Closed}
use Rattle.script.specs.declared.stage.Started.{Started}

-- a session that begins
abbrev pub begun_as : {F : Type 0} → (F → Family) → Memory → Result (Begun F) Refusal
    → Result LineOutcome Refusal
begun_as meaning memory (Ok begun) =
    Ok (line_outcome (Ok (granted begun.owner)) (session_state meaning begun.session memory))
begun_as meaning memory (Err refusal) = Err refusal

abbrev pub stage_of : MadeStage → Memory → Stage
stage_of Waiting memory = before (content memory)
stage_of (Powers session) memory = during (session_state in_powers.meaning session memory)
stage_of (Dickson session) memory = during (session_state in_dickson.meaning session memory)
stage_of Closed memory = closed

abbrev pub script_stage : Script → Memory → Stage
script_stage script memory = stage_of script.stage memory

-- a script whose store is open, or not
abbrev pub started_as : Memory → Result Started Refusal → ScriptOutcome
started_as memory (Ok started) =
    script_outcome (Ok (granted started.owner)) (stage_of started.stage memory)
started_as memory (Err refusal) = script_outcome (Err refusal) closed
