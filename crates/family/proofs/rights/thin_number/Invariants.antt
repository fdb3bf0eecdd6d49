use Rattle.std.proofs.Common.{◌≡◌}
use Rattle.family.specs.Commuting.{apply}
use Rattle.family.specs.Rights.{has_right}
use Rattle.family.specs.Thin.{thin_below}
use Rattle.family.proofs.rights.thin_number.Given as goal

abbrev pub invariant-loop-k : goal.invariant-loop-k
invariant-loop-k g l =
    let m = g.F.CommutingFamily in
    l.result ≡ thin_below (apply (m.meaning l.family)) (has_right l.set) l.k l.v
