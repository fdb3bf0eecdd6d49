use Rattle.std.specs.Fmt.{IsPlainFormatter, HasWritten}
use Rattle.restrict_command.specs.Report.{rights_below}
use Rattle.restrict_command.proofs.report.ListedDisplay.fmt.Given as goal

-- the numbers so far
abbrev pub invariant-loop-k : goal.invariant-loop-k
invariant-loop-k g l =
    IsPlainFormatter l.initial.f
    → HasWritten g.W.Write.write_str_gives l.initial.f (rights_below l.self.set l.k-counter) l.f
