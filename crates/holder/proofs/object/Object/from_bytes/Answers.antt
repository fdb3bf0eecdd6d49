use Rattle.std.proofs.Common.{◌∙◌, ap, sym}
use Rattle.holder.specs.Checks.{object_of}
use Rattle.holder.proofs.CheckFacts.{object_again}
use Rattle.holder.proofs.object.Object.from_bytes.Goals as goal

pub returns : goal.returns
returns c = sym (object_again _) ∙ ap object_of c.number_of-value.ensures.value
