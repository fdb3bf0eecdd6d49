use Rattle.std.proofs.Common.{◌≡◌, ◌/◌, ◌%◌, ◌^◌, ◌≤◌, nat_eq, ◌∙◌, sym, ap, arith}
use Rattle.std.proofs.Math.Nat.{pow-le-pow_right, div-eq_of_lt}
use Rattle.std.proofs.lemmas.Bool.{le-ltb}
use Rattle.family.proofs.rights.has_right.Goals as goal

-- a byte has no bit above 7
pub returns-else-k-lt8 : goal.returns-else-k-lt8
returns-else-k-lt8 c =
    let above : 8 ≤ c.args.k = omega (arith, c.if-k-lt8.false) in
    let wide : 2 ^ 8 ≤ 2 ^ c.args.k = pow-le-pow_right (omega arith) above in
    let none : c.args.set / 2 ^ c.args.k ≡ 0 =
    div-eq_of_lt (omega (arith, wide, c.ranges.set.fits)) in
    le-ltb c.args.k 8 above ∙ sym (ap (λ x. nat_eq (x % 2) 1) none)
