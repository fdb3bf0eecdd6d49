-- What the holders of a script have in their pockets: eight pockets for each of eight holders.
use Rattle.std.specs.Prelude.{List, replicate, get_or, set, None, Some, Ok, Option, Result}
use Rattle.refusal.specs.Chains.{given}
use Rattle.holder.specs.declared.capability.Capability.{Capability}
use Rattle.lines.specs.declared.error.LineRefusal.{LineRefusal}
use Rattle.lines.specs.declared.error.LineRefusal.TheVariants.{EmptyPocket}
use Rattle.lines.specs.declared.pocket.Pocket.{Pocket}

abbrev pub empty_pockets : List (Option Capability)
empty_pockets = replicate 64 None

-- what a pocket holds; a refusal tells the number of the word that names it
abbrev pub capability_in : List (Option Capability) → Pocket → Result Capability LineRefusal
capability_in pockets pocket =
    given (get_or pockets pocket.index None) (EmptyPocket pocket.number) Ok

-- the pockets with a capability put into one of them
abbrev pub pockets_with : List (Option Capability) → Pocket → Capability → List (Option Capability)
pockets_with pockets pocket c = set pockets pocket.index (Some c)
