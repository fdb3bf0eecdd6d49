use Rattle.std.proofs.Common.{◌∙◌, rules}
use Rattle.store.specs.State.{state}
use Rattle.store.specs.Requests.{done}
use Rattle.store.proofs.OrderFacts.{destroy_outcome, refused_unchanged}
use Rattle.store.proofs.store.Store.destroy.Goals as goal

pub returns : goal.returns
returns g c =
    let outcome_is = c.try_destroy.ensures.outcome
    ∙ destroy_outcome (state g.F.CommutingFamily.meaning c.args.self.now c.args.memory.now)
    c.args.capability in
    record {
      outcome = outcome_is;
      unchanged = refused_unchanged (λ _. done) _ _ _ _ _ _ outcome_is;
      loan = search rules;
    }
