use Rattle.std.proofs.Common.{◌≡◌, ◌+◌, length, drop}
use Rattle.text.specs.Lines.{line_in}
use Rattle.console.proofs.line.length_of_line.Given as goal

abbrev pub invariant-loop-i : goal.invariant-loop-i
invariant-loop-i l = l.i + length (line_in (drop l.i l.bytes)) ≡ length (line_in l.bytes)
