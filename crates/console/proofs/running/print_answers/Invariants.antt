use Rattle.std.specs.Io.Buffered.{reader_remaining}
use Rattle.memory.specs.Held.{content}
use Rattle.script.specs.CodeStates.{script_stage}
use Rattle.script.specs.Scripts.{before}
use Rattle.console.proofs.PrintFacts.{Printed}
use Rattle.console.proofs.running.print_answers.Given as goal

abbrev pub invariant-loop : goal.invariant-loop
invariant-loop g l =
    Printed (before (content l.initial.memory))
    (reader_remaining g.R.Read.remaining l.initial.input) (g.W.Write.contents l.initial.output)
    (script_stage l.script l.memory) (reader_remaining g.R.Read.remaining l.input)
    (g.W.Write.contents l.output)
