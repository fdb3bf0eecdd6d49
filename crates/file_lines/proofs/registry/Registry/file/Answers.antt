use Rattle.file_lines.specs.Registry.{RegistryState, registry_state}
use Rattle.file_lines.proofs.RegistryFacts.{files}
use Rattle.file_lines.proofs.registry.Registry.file.Goals as goal

pub returns : goal.returns
returns g c =
    let s : RegistryState =
    registry_state g.F.CommutingFamily.meaning c.args.self.now c.args.memory.now in
    files s c.args.bytes.now c.next-self.result c.new-secret.result _ c.create_file.ensures.outcome
    c.new-secret.ensures
    c.next-self.ensures
