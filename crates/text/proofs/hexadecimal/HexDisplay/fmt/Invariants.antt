use Rattle.std.proofs.Common.{take}
use Rattle.std.specs.Fmt.{IsPlainFormatter, HasWritten}
use Rattle.text.specs.Hex.{hex_text}
use Rattle.text.proofs.hexadecimal.HexDisplay.fmt.Given as goal

-- the digits of the bytes so far
abbrev pub invariant-loop-b : goal.invariant-loop-b
invariant-loop-b g l =
    IsPlainFormatter l.initial.f
    → HasWritten g.W.Write.write_str_gives l.initial.f (hex_text (take l.b-index l.self.bytes.now))
    l.f
