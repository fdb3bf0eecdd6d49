use Rattle.secret.proofs.FitnessFacts.{judged}
use Rattle.secret.proofs.fitness.thinned_differ.Goals as goal

pub returns : goal.returns
returns g c =
    let f = (g.F.CommutingFamily.meaning c.args.family.now).function in
    judged f c.args.s c.fill.new.numbers c.all_differ.result c.fill.ensures c.all_differ.ensures
