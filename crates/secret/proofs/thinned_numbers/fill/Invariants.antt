use Rattle.std.proofs.Common.{◌≡◌, ℕ, ◌*◌, ◌/◌, ◌^◌, ◌<◌, get_or}
use Rattle.secret.specs.Fitness.{thinned_number}
use Rattle.secret.proofs.thinned_numbers.fill.Given as goal

-- the sets whose rights are all from k on, of which there are 256 / 2^k, are filled
abbrev pub invariant-loop-k : goal.invariant-loop-k
invariant-loop-k g l =
    (i : ℕ) → i < 256 / 2 ^ l.k
    → get_or l.numbers (i * 2 ^ l.k) 0
    ≡ thinned_number (g.F.CommutingFamily.meaning l.family).function l.s (i * 2 ^ l.k)
