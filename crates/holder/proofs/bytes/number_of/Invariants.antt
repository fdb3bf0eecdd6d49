use Rattle.std.proofs.Common.{◌≡◌, ◌*◌, ◌^◌, ◌<◌, take}
use Rattle.holder.specs.Bytes.{number}
use Rattle.holder.proofs.bytes.number_of.Given as goal

-- the number of the bytes so far
abbrev pub invariant-loop-b : goal.invariant-loop-b
invariant-loop-b g l = (l.n ≡ number (take l.b-index l.bytes)) × (l.n < 2 ^ (8 * l.b-index))
