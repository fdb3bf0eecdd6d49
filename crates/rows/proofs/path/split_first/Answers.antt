use Rattle.std.proofs.Common.{sym}
use Rattle.rows.proofs.PathFacts.{first_found, after_found, first_not_found, after_not_found}
use Rattle.rows.proofs.path.split_first.Goals as goal

pub returns-in-Some-clause-first : goal.returns-in-Some-clause-first
returns-in-Some-clause-first c =
    first_found c.args.path.now c.in-Some.slash (sym c.in-Some.ensures.value)

pub returns-in-Some-clause-rest : goal.returns-in-Some-clause-rest
returns-in-Some-clause-rest c =
    after_found c.args.path.now c.in-Some.slash (sym c.in-Some.ensures.value)

pub returns-in-None-clause-first : goal.returns-in-None-clause-first
returns-in-None-clause-first c = first_not_found c.args.path.now (sym c.in-None.ensures.value)

pub returns-in-None-clause-rest : goal.returns-in-None-clause-rest
returns-in-None-clause-rest c = after_not_found c.args.path.now (sym c.in-None.ensures.value)
