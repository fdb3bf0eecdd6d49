-- The deed of a step.
use Rattle.std.proofs.Common.{◌≡◌, List, Option, Result, sym, ap, ◌∙◌}
use Rattle.holder.specs.declared.capability.Capability.{Capability}
use Rattle.lines.specs.Steps.{step_values}
use Rattle.lines.specs.declared.error.LineRefusal.{LineRefusal}
use Rattle.lines.specs.declared.step.Step.{Step}
use Rattle.script.specs.Deeds.{Deed, deed_of}

-- it is that of the step that it is
pub of_step : (pockets : List (Option Capability)) (step is : Step) (r : Result Deed LineRefusal)
    → step ≡ is
    → r ≡ deed_of pockets (step_values is) → r ≡ deed_of pockets (step_values step)
of_step pockets step is r same e = e ∙ ap (λ s. deed_of pockets (step_values s)) (sym same)
