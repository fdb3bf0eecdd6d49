use Rattle.std.proofs.Common.{refl, rules}
use Rattle.store.specs.Requests.{create_file, granted}
use Rattle.store.specs.State.{state}
use Rattle.store.proofs.OrderFacts.{finished, refused_unchanged}
use Rattle.store.proofs.store.Store.create_file.Goals as goal

pub returns : goal.returns
returns g c =
    let outcome_is = finished (state g.F.CommutingFamily.meaning c.args.self.now c.args.memory.now)
    c.args.capability (create_file c.args.bytes.now c.args.secret) _ _ c.args.scratch.now _
    refl (search rules) (search rules) c.try_file.ensures.outcome in
    record {
      outcome = outcome_is;
      unchanged = refused_unchanged granted _ _ _ _ _ _ outcome_is;
      loan = search rules;
    }
