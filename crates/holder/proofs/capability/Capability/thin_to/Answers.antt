use Rattle.std.proofs.Common.{◌<◌, sym, subst, rules}
use Rattle.family.specs.Commuting.{IsCommuting}
use Rattle.holder.specs.Laws.{StaysGenuine}
use Rattle.holder.proofs.ThinningFacts.{twice_is_once, one_by_one, thinned_genuine}
use Rattle.holder.proofs.capability.Capability.thin_to.Goals as goal

pub returns : goal.returns
returns g c =
    let met = g.met.F.CommutingFamily in
    let own = c.args.family.now in
    let F = g.F.CommutingFamily.meaning own in
    let laws : IsCommuting F = met.laws own in
    let byte : c.args.self.rights.bits < 256 = search rules in
    let mask : c.args.mask.bits < 256 = search rules in
    record {
      value = c.within_mask.ensures;
      genuine =
          subst (StaysGenuine F c.args.self) (sym c.within_mask.ensures)
          (thinned_genuine F laws c.args.self c.args.mask.bits mask);
      twice = twice_is_once F laws c.args.self c.args.mask.bits mask;
      one_by_one = one_by_one F laws c.args.self c.args.mask.bits (record { byte = byte }) mask;
    }
