use Rattle.std.proofs.Common.{◌<◌, sym, subst, rules}
use Rattle.family.specs.Commuting.{IsCommuting}
use Rattle.holder.specs.Laws.{StaysGenuine}
use Rattle.holder.proofs.ThinningFacts.{Whole, any_order, dropped_genuine}
use Rattle.holder.proofs.capability.Capability.drop_right.Goals as goal

pub returns : goal.returns
returns g c =
    let met = g.met.F.CommutingFamily in
    let own = c.args.family.now in
    let F = g.F.CommutingFamily.meaning own in
    let laws : IsCommuting F = met.laws own in
    let byte : c.args.self.rights.bits < 256 = search rules in
    let whole : Whole c.args.self = record { byte = byte } in
    record {
      value = c.without_right.ensures;
      genuine =
          subst (StaysGenuine F c.args.self) (sym c.without_right.ensures)
          (dropped_genuine F laws c.args.self c.args.k whole);
      order = any_order F laws c.args.self c.args.k whole;
    }
