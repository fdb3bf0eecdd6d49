use Rattle.lines.proofs.FaultFacts.{step_faulty}
use Rattle.lines.proofs.LineFacts.{task_spelled, task_within}
use Rattle.lines.proofs.step_line.read_step.Goals as goal

pub returns-clause-spelled : goal.returns-clause-spelled
returns-clause-spelled c = task_spelled c.args.line.now _ c.read_whole.ensures

pub returns-clause-within : goal.returns-clause-within
returns-clause-within c = task_within c.args.line.now _ c.read_whole.ensures

pub returns-clause-first : goal.returns-clause-first
returns-clause-first c = step_faulty c.args.line.now _ c.read_whole.ensures
