use Rattle.lines.specs.declared.words.Words.{Words}
use Rattle.lines.proofs.CursorFacts.{first_taken, stands_behind}
use Rattle.lines.proofs.words.Words.take.Goals as goal

pub invariant_of-self : goal.invariant_of-self
invariant_of-self c =
    let w : Words = c.args.self.now in
    record {
      stands =
          stands_behind w.line.now w.start w.number _ w.stands
          c.first_length-length.ensures.length _
          c.min.ensures;
    }

pub returns-clause-bytes : goal.returns-clause-bytes
returns-clause-bytes c =
    let w : Words = c.args.self.now in
    first_taken w.line.now w.start w.number _ w.stands c.first_length-length.ensures.length
