use Rattle.std.proofs.Common.{◌≡◌, ℕ, ◌+◌, ◌-◌, ◌<◌, false}
use Rattle.memory.specs.Placement.{is_allowed}
use Rattle.memory.proofs.placement.first_clear.Given as goal

-- no start before this one is allowed
abbrev pub invariant-loop-start : goal.invariant-loop-start
invariant-loop-start l = (s : ℕ) → s < l.start → is_allowed l.files l.area l.length s ≡ false

abbrev pub decreases-loop-start : goal.decreases-loop-start
decreases-loop-start l = l.last + 1 - l.start
