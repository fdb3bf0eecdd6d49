use Rattle.std.proofs.Common.{[], None}
use Rattle.console.specs.Reading.{ReadsOn, line_bytes}
use Rattle.console.proofs.line.Line.read.Given as goal

abbrev pub invariant-loop : goal.invariant-loop
invariant-loop g l =
    ReadsOn (g.R.Read.remaining l.initial.input) (g.R.Read.remaining l.input) None []
    (line_bytes l.self)
