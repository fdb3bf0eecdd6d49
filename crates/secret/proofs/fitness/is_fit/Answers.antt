use Rattle.secret.proofs.FitnessFacts.{decides_fit}
use Rattle.secret.proofs.fitness.is_fit.Goals as goal

pub returns : goal.returns
returns g c =
    let own = c.args.family.now in
    record {
      value = c.decide.ensures.value;
      zeroed = c.decide.ensures.zeroed;
      decides = decides_fit (g.F.CommutingFamily.meaning own) c.args.secret.value;
    }
