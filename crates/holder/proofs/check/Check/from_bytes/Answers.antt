use Rattle.std.proofs.Common.{◌∙◌, ap, sym}
use Rattle.holder.specs.Checks.{check_of}
use Rattle.holder.proofs.CheckFacts.{check_again}
use Rattle.holder.proofs.check.Check.from_bytes.Goals as goal

pub returns : goal.returns
returns c = sym (check_again _) ∙ ap check_of c.number_of-value.ensures.value
