use Rattle.lines.proofs.FaultFacts.{store_faulty}
use Rattle.lines.proofs.LineFacts.{store_spelled}
use Rattle.lines.proofs.store_line.read_store_line.Goals as goal

pub returns-clause-spelled : goal.returns-clause-spelled
returns-clause-spelled c = store_spelled c.args.line.now _ c.read_whole.ensures

pub returns-clause-first : goal.returns-clause-first
returns-clause-first c = store_faulty c.args.line.now _ c.read_whole.ensures
