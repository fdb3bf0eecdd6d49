use Rattle.std.proofs.Common.{◌≡◌}
use Rattle.rows.specs.Paths.{is_lawful_path}
use Rattle.rows.proofs.PathFacts.{judged}
use Rattle.rows.proofs.path.is_lawful_path.Given as goal

-- each name taken is lawful, so the rest decides
abbrev pub invariant-names : goal.invariant-names
invariant-names l = judged l.counter l.rest ≡ is_lawful_path l.path
