use Rattle.file_lines.specs.Registry.{RegistryState, registry_state}
use Rattle.file_lines.proofs.RegistryFacts.{revokes}
use Rattle.file_lines.proofs.registry.Registry.revoke.Goals as goal

pub returns : goal.returns
returns g c =
    let s : RegistryState =
    registry_state g.F.CommutingFamily.meaning c.args.self.now c.args.memory.now in
    revokes s c.args.run c.next-self.result c.new-secret.result _ c.revoke.ensures.outcome
    c.new-secret.ensures
    c.next-self.ensures
