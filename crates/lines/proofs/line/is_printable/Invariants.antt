use Rattle.std.proofs.Common.{◌≡◌, take}
use Rattle.lines.specs.Lines.{is_printable}
use Rattle.lines.proofs.line.is_printable.Given as goal

-- whether each byte before the index can be printed
abbrev pub invariant-loop-byte : goal.invariant-loop-byte
invariant-loop-byte l = l.printable ≡ is_printable (take l.byte-index l.line)
