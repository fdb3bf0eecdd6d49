use Rattle.std.proofs.Common.{◌≡◌, length}
use Rattle.rows.specs.Search.{place_of_object}
use Rattle.rows.proofs.row_search.last_place.Given as goal

-- no row behind the rest holds one, so the rest decides
abbrev pub invariant-loop-row : goal.invariant-loop-row
invariant-loop-row l = place_of_object l.object.value l.rest ≡ place_of_object l.object.value l.rows

abbrev pub decreases-loop-row : goal.decreases-loop-row
decreases-loop-row l = length l.rest
