use Rattle.std.proofs.Common.{drop}
use Rattle.file_lines.specs.Registry.{registry_state}
use Rattle.file_lines.proofs.FilingFacts.{ReadSoFar}
use Rattle.file_lines.proofs.closing.read_all.Given as goal

abbrev pub invariant-loop-run : goal.invariant-loop-run
invariant-loop-run g l =
    let m = g.F.CommutingFamily in
    ReadSoFar (registry_state m.meaning l.registry l.memory) (g.W.Write.contents l.initial.output)
    l.runs (drop l.run-index l.runs) (g.W.Write.contents l.output)
