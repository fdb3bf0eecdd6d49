use Rattle.std.proofs.Common.{◌≡◌, ◌-◌, ◌*◌, ◌/◌, ◌^◌, sym, ap, ◌∙◌, get_or, arith}
use Rattle.family.specs.Commuting.{IsCommuting}
use Rattle.secret.specs.Fitness.{thinned_number}
use Rattle.secret.proofs.FillFacts.{empty_first, numbers_below, filled_more}
use Rattle.secret.proofs.thinned_numbers.fill.Goals as goal

pub loop-k-init : goal.loop-k-init
loop-k-init g c =
    λ i h. empty_first (g.F.CommutingFamily.meaning c.args.family.now).function c.args.s
    c.args.numbers.now (i * 256) (omega (arith, c.told-numbers)) (omega arith)

pub add_right-requires-clause-below : goal.add_right-requires-clause-below
add_right-requires-clause-below g c =
    let own = c.args.family.now in
    let F = g.F.CommutingFamily.meaning own in
    let laws : IsCommuting F = g.met.F.CommutingFamily.laws own in
    numbers_below F laws c.args.s (c.loop-k.k - 1) c.loop-k.k c.requires (omega arith) (omega arith)
    c.loop-k.numbers c.loop-k.numbers c.loop-k.invariant

pub loop-k-preserved : goal.loop-k-preserved
loop-k-preserved g c =
    let own = c.args.family.now in
    let F = g.F.CommutingFamily.meaning own in
    let laws : IsCommuting F = g.met.F.CommutingFamily.laws own in
    filled_more F laws c.args.s (c.loop-k.k - 1) c.loop-k.k c.requires (omega arith) (omega arith)
    c.loop-k.numbers c.add_right.new.numbers c.loop-k.invariant c.add_right.ensures.kept
    c.add_right.ensures.added

pub returns : goal.returns
returns g c = λ m h.
    let f = (g.F.CommutingFamily.meaning c.args.family.now).function in
    let k = c.loop-k.k in
    let last : k ≡ 0 = let over = c.loop-k-test.false in omega arith in
    let place : m * 2 ^ k ≡ m = ap (λ x. m * 2 ^ x) last ∙ omega arith in
    let all : 256 / 2 ^ k ≡ 256 = ap (λ x. 256 / 2 ^ x) last in
    ap (λ x. get_or c.loop-k.numbers x 0) (sym place) ∙ c.loop-k.invariant m (omega (arith, all, h))
    ∙ ap (thinned_number f c.args.s) place
