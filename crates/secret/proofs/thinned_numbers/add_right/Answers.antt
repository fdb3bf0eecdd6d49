use Rattle.std.proofs.Common.{◌≡◌, ◌+◌, ◌*◌, ◌^◌, ◌<◌, ◌≤◌, length, get_or, set, ap, ◌∙◌, arith, pow_pos}
use Rattle.std.proofs.Math.Nat.{le-div_iff_mul-le}
use Rattle.secret.proofs.FillFacts.{still_without, one_given}
use Rattle.secret.proofs.thinned_numbers.add_right.Goals as goal

pub loop-i-preserved : goal.loop-i-preserved
loop-i-preserved g c =
    let f = (g.F.CommutingFamily.meaning c.args.family.now).function c.args.k in
    let p = 2 ^ c.args.k in
    let i = c.loop-i.i in
    let xs = c.loop-i.numbers in
    let zs = c.args.numbers.now in
    let y = c.value.result in
    let positive : 0 < p = pow_pos c.args.k in
    let step = c.loop-i.invariant.0 in
    let even = c.loop-i.invariant.1 in
    let odd = c.loop-i.invariant.2 in
    let whole : (i + 1) * p ≤ 128 =
    (le-div_iff_mul-le positive).0 (let h = c.loop-i-test.true in omega arith) in
    let room : (2 * i + 1) * p < length xs = omega (arith, whole, positive, c.told-numbers) in
    let given : y ≡ f (get_or xs (2 * i * p) 0) =
    c.value.ensures ∙ ap (λ q. f (get_or xs (2 * i * q) 0)) step in (
      step,
      λ j. ap (λ q. get_or (set xs ((2 * i + 1) * q) y) (2 * j * p) 0) step
          ∙ still_without f p i y xs zs positive room even odd given j,
      λ j h. ap (λ q. get_or (set xs ((2 * i + 1) * q) y) ((2 * j + 1) * p) 0) step
          ∙ one_given f p i y xs zs positive room even odd given j h,
    )

pub returns-clause-added : goal.returns-clause-added
returns-clause-added g c =
    λ i h. c.loop-i.invariant.2 i (let over = c.loop-i-test.false in omega arith)
