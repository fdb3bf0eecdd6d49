use Rattle.secret.specs.Fitness.{AreAllNew}
use Rattle.secret.proofs.fitness.all_differ.Given as goal

-- the first j are pairwise different
abbrev pub invariant-loop-j : goal.invariant-loop-j
invariant-loop-j l = AreAllNew l.numbers l.j
