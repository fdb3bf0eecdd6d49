use Rattle.rows.proofs.GapFacts.{set_last, set_with_last}
use Rattle.rows.proofs.row_changes.put_last.Goals as goal

pub returns-then-count-gt0-clause-value : goal.returns-then-count-gt0-clause-value
returns-then-count-gt0-clause-value c = set_with_last c.args.row c.args.rows.now c.if-count-gt0.true

pub returns-then-count-gt0-clause-there : goal.returns-then-count-gt0-clause-there
returns-then-count-gt0-clause-there c = set_last c.args.row c.args.rows.now
