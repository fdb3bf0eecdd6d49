use Rattle.std.proofs.Common.{◌≡◌, ◌≢◌, ℕ, ◌<◌, MatchBool, slice_index}
use Rattle.secret.proofs.fitness.is_among.Given as goal

-- one of those seen is the number, or none of them is
abbrev pub invariant-loop-other : goal.invariant-loop-other
invariant-loop-other l =
    MatchBool l.among ((i : ℕ) × ((i < l.other-index) × (slice_index l.others i ≡ l.number)))
    ((i : ℕ) → i < l.other-index → slice_index l.others i ≢ l.number)
