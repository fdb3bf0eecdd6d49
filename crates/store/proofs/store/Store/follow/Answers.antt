use Rattle.std.proofs.Common.{◌≡◌, ◌≤◌, ◌+◌, ℕ, length, Ok, Err, refl, sym, ap, ◌∙◌, subst, arith}
use Rattle.rows.specs.Paths.{names_in, first_name, names_in_rest}
use Rattle.store.specs.State.{State, state}
use Rattle.store.specs.LookUp.{walk_end, lookup_by}
use Rattle.store.proofs.Following.{names_left, fewer_left, followed, refused, one_more}
use Rattle.store.proofs.store.Store.follow.Goals as goal

pub loop-rest-init : goal.loop-rest-init
loop-rest-init g c = (refl, omega (arith, c.requires.few))

pub returns-in-Err : goal.returns-in-Err
returns-in-Err g c =
    let s : State = state g.F.CommutingFamily.meaning c.args.self.now c.args.memory.now in
    let looked : lookup_by s c.loop-rest.reached (first_name c.in-Some.names.now) c.loop-rest.place
    ≡ Err c.in-Err.e =
    ap (λ bs. lookup_by s c.loop-rest.reached bs c.loop-rest.place)
    (sym c.split_first-split.ensures.first) ∙ sym c.look.ensures ∙ c.in-Err.is in
    refused s c.loop-rest.reached c.in-Some.names.now c.loop-rest.place c.in-Err.e looked
    ∙ ap (λ r. walk_end s c.loop-rest.reached (names_left r) c.loop-rest.place) (sym c.in-Some.is)
    ∙ c.loop-rest.invariant.0

pub overflow_add-place : goal.overflow_add-place
overflow_add-place g c = omega (arith, c.loop-rest.invariant.1)

pub loop-rest-smaller : goal.loop-rest-smaller
loop-rest-smaller g c =
    rw c.in-Some.is (fewer_left c.in-Some.names.now c.split_first-split.result.rest
    c.split_first-split.ensures.rest)

pub loop-rest-preserved : goal.loop-rest-preserved
loop-rest-preserved g c =
    let s : State = state g.F.CommutingFamily.meaning c.args.self.now c.args.memory.now in
    let path = c.in-Some.names.now in
    let place : ℕ = c.loop-rest.place in
    let looked : lookup_by s c.loop-rest.reached (first_name path) place ≡ Ok c.in-Ok.found =
    ap (λ bs. lookup_by s c.loop-rest.reached bs place) (sym c.split_first-split.ensures.first)
    ∙ sym c.look.ensures ∙ c.in-Ok.is in
    let old : place + length (names_in path) ≤ 17 =
    subst (λ r. place + length (names_left r) ≤ 17) c.in-Some.is c.loop-rest.invariant.1 in
    let same = ap (λ o. length (names_in_rest o)) c.split_first-split.ensures.rest in (
      ap (λ o. walk_end s c.in-Ok.found (names_in_rest o) (place + 1))
          c.split_first-split.ensures.rest
          ∙ followed s c.loop-rest.reached path place c.in-Ok.found looked
          ∙ ap (λ r. walk_end s c.loop-rest.reached (names_left r) place) (sym c.in-Some.is)
          ∙ c.loop-rest.invariant.0,
      omega (arith, old, same, one_more s c.loop-rest.reached path place),
    )

pub returns : goal.returns
returns g c =
    let s : State = state g.F.CommutingFamily.meaning c.args.self.now c.args.memory.now in
    ap (λ r. walk_end s c.loop-rest.reached (names_left r) c.loop-rest.place) (sym c.in_default.is)
    ∙ c.loop-rest.invariant.0
