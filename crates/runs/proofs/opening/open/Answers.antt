use Rattle.family.specs.Commuting.{IsCommuting}
use Rattle.memory.specs.Held.{content}
use Rattle.runs.proofs.OpeningFacts.{opening_keeps}
use Rattle.runs.proofs.RequestFacts.{request_laws}
use Rattle.runs.proofs.opening.open.Goals as goal

pub returns : goal.returns
returns g c =
    let met = g.met.F.CommutingFamily in
    let own = c.args.gate.family in
    let F = g.F.CommutingFamily.meaning own in
    let family : IsCommuting F = met.laws own in
    record {
      answer = c.open.ensures.answer;
      memory = c.open.ensures.memory;
      scratch = c.open.ensures.scratch;
      unchanged = c.open.ensures.unchanged;
      loan = c.open.ensures.loan;
      requests = request_laws;
      law =
          opening_keeps F family c.args.gate.port c.args.gate.secret (content c.args.memory.now)
          c.args.scratch.now
          g.F.CommutingFamily.meaning _ _ c.open.ensures.answer;
    }
