use Rattle.std.proofs.lemmas.Result.{err_from_is_err_and}
use Rattle.console.proofs.PrintFacts.{unwritten}
use Rattle.console.proofs.running.print_answer.Goals as goal

pub returns-in_err-map_err-clause-output : goal.returns-in_err-map_err-clause-output
returns-in_err-map_err-clause-output g c =
    let p = err_from_is_err_and c.from_residual.result c.from_residual.ensures.1 in
    rw (p.1, p.2) (unwritten _ c.write_all.result c.map_err.result c.in_err-map_err.field-0.0
    c.map_err.ensures.cases c.in_err-map_err.was)
