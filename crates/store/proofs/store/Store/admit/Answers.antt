use Rattle.store.specs.State.{state}
use Rattle.store.proofs.AdmittedFacts.{admitted_facts}
use Rattle.store.proofs.store.Store.admit.Goals as goal

pub returns : goal.returns
returns g c = record {
  object = c.pass.ensures;
  facts = admitted_facts (state g.F.CommutingFamily.meaning c.args.self.now c.args.memory.now)
      c.args.capability c.args.rule _ c.pass.ensures;
}
