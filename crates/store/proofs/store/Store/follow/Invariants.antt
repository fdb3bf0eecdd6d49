use Rattle.std.proofs.Common.{◌≡◌, ◌≤◌, ◌+◌, length}
use Rattle.rows.specs.Paths.{names_in}
use Rattle.store.specs.State.{State, state}
use Rattle.store.specs.LookUp.{walk_end}
use Rattle.store.proofs.Following.{bytes_left, names_left}
use Rattle.store.proofs.store.Store.follow.Given as goal

abbrev pub invariant-loop-rest : goal.invariant-loop-rest
invariant-loop-rest g l =
    let s : State = state g.F.CommutingFamily.meaning l.self l.memory in
    (walk_end s l.reached (names_left l.rest) l.place
    ≡ walk_end s l.fn.capability (names_in l.path) 1)
    × (l.place + length (names_left l.rest) ≤ 17)

abbrev pub decreases-loop-rest : goal.decreases-loop-rest
decreases-loop-rest g l = bytes_left l.rest
