use Rattle.std.proofs.Common.{◌≡◌, Bool, length}
use Rattle.std.specs.Fn.{FnReturnsAtPair}
use Rattle.memory.specs.EachTwo.{pairwise}
use Rattle.memory.proofs.each_two.holds_of_each_two.Given as goal

-- those so far agree with all later ones, so the rest decides
abbrev pub invariant-loop-item : goal.invariant-loop-item
invariant-loop-item g l =
    (p : _) → ((x y : _) (r : Bool) → FnReturnsAtPair g.F.Fn l.agree x y r → r ≡ p x y)
    → pairwise p l.rest ≡ pairwise p l.fn.items

abbrev pub decreases-loop-item : goal.decreases-loop-item
decreases-loop-item g l = length l.rest
