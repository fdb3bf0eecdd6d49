use Rattle.std.specs.Io.Buffered.{reader_remaining}
use Rattle.file_lines.specs.Registry.{registry_state}
use Rattle.file_lines.proofs.FilingFacts.{FiledSoFar}
use Rattle.file_lines.proofs.filing.file_lines.Given as goal

abbrev pub invariant-loop-line : goal.invariant-loop-line
invariant-loop-line g l =
    let m = g.F.CommutingFamily in
    FiledSoFar (registry_state m.meaning l.initial.registry l.initial.memory)
    (reader_remaining g.R.Read.remaining l.initial.input) (g.W.Write.contents l.initial.output)
    (registry_state m.meaning l.registry l.memory) l.line
    (reader_remaining g.R.Read.remaining l.input) (g.W.Write.contents l.output) l.runs.items
