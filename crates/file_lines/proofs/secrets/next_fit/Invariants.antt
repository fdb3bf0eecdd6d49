use Rattle.file_lines.specs.Secrets.{can_follow}
use Rattle.table.specs.Lowest.{NoneBelow}
use Rattle.file_lines.proofs.secrets.next_fit.Given as goal

-- no number before this one can follow the last one
abbrev pub invariant-loop-number : goal.invariant-loop-number
invariant-loop-number g l =
    let m = g.F.CommutingFamily in
    NoneBelow (can_follow (m.meaning l.family) l.last) l.number
