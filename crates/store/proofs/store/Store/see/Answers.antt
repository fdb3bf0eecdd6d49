use Rattle.std.proofs.Common.{Ok, sym, ap, ◌∙◌}
use Rattle.store.specs.Rules.{to_see}
use Rattle.store.specs.State.{state}
use Rattle.store.proofs.AdmittedFacts.{admitted_rows}
use Rattle.store.proofs.store.Store.see.Goals as goal

pub returns-in-Directory-clause-rows : goal.returns-in-Directory-clause-rows
returns-in-Directory-clause-rows g c =
    admitted_rows (state g.F.CommutingFamily.meaning c.args.self.now c.args.memory.now)
    c.args.capability to_see c.args.place _ _
    c.requires (sym c.admit_at.ensures ∙ c.in_ok-place.was ∙ ap Ok c.in-Directory.is)
