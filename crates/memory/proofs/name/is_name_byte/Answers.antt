use Rattle.std.proofs.Common.{false, ap, ◌∙◌, slice_index_or, arith}
use Rattle.memory.proofs.NameBytes.{name_bytes, is_rule}
use Rattle.memory.proofs.name.is_name_byte.Goals as goal

pub returns : goal.returns
returns c =
    ap (λ i. slice_index_or name_bytes i false) c.from.ensures
    ∙ is_rule c.args.byte (omega (arith, c.ranges.byte.fits))
