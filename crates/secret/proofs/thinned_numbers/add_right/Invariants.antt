use Rattle.std.proofs.Common.{◌≡◌, ℕ, ◌+◌, ◌*◌, ◌^◌, ◌<◌, get_or}
use Rattle.secret.proofs.thinned_numbers.add_right.Given as goal

-- the sets without right k are as they were, and those before the index have been given it
abbrev pub invariant-loop-i : goal.invariant-loop-i
invariant-loop-i g l =
    (l.step ≡ 2 ^ l.k)
    × ((j : ℕ) → get_or l.numbers (2 * j * 2 ^ l.k) 0
    ≡ get_or l.initial.numbers (2 * j * 2 ^ l.k) 0)
    × ((j : ℕ) → j < l.i → get_or l.numbers ((2 * j + 1) * 2 ^ l.k) 0
    ≡ (g.F.CommutingFamily.meaning l.family).function l.k
    (get_or l.initial.numbers (2 * j * 2 ^ l.k) 0))
