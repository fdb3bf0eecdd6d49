use Rattle.std.proofs.Common.{rules}
use Rattle.lines.proofs.ValueFacts.{of_verb}
use Rattle.lines.proofs.step_line.read_own.Goals as goal

pub returns-in-File-clause-step : goal.returns-in-File-clause-step
returns-in-File-clause-step c = of_verb _ _ _ _ c.in-File.is (search rules)

pub returns-in-Directory-clause-step : goal.returns-in-Directory-clause-step
returns-in-Directory-clause-step c = of_verb _ _ _ _ c.in-Directory.is (search rules)

pub returns-in-Read-clause-step : goal.returns-in-Read-clause-step
returns-in-Read-clause-step c = of_verb _ _ _ _ c.in-Read.is (search rules)

pub returns-in-Size-clause-step : goal.returns-in-Size-clause-step
returns-in-Size-clause-step c = of_verb _ _ _ _ c.in-Size.is (search rules)

pub returns-in-Drop-clause-step : goal.returns-in-Drop-clause-step
returns-in-Drop-clause-step c = of_verb _ _ _ _ c.in-Drop.is (search rules)

pub returns-in-Give-clause-step : goal.returns-in-Give-clause-step
returns-in-Give-clause-step c = of_verb _ _ _ _ c.in-Give.is (search rules)

pub returns-in-Enter-clause-step : goal.returns-in-Enter-clause-step
returns-in-Enter-clause-step c = of_verb _ _ _ _ c.in-Enter.is (search rules)

pub returns-in-Remove-clause-step : goal.returns-in-Remove-clause-step
returns-in-Remove-clause-step c = of_verb _ _ _ _ c.in-Remove.is (search rules)

pub returns-in-LookUp-clause-step : goal.returns-in-LookUp-clause-step
returns-in-LookUp-clause-step c = of_verb _ _ _ _ c.in-LookUp.is (search rules)

pub returns-in-Walk-clause-step : goal.returns-in-Walk-clause-step
returns-in-Walk-clause-step c = of_verb _ _ _ _ c.in-Walk.is (search rules)

pub returns-in-Row-clause-step : goal.returns-in-Row-clause-step
returns-in-Row-clause-step c = of_verb _ _ _ _ c.in-Row.is (search rules)

pub returns-in-Name-clause-step : goal.returns-in-Name-clause-step
returns-in-Name-clause-step c = of_verb _ _ _ _ c.in-Name.is (search rules)

pub returns-in-Destroy-clause-step : goal.returns-in-Destroy-clause-step
returns-in-Destroy-clause-step c = of_verb _ _ _ _ c.in-Destroy.is (search rules)

pub returns-in-Revoke-clause-step : goal.returns-in-Revoke-clause-step
returns-in-Revoke-clause-step c = of_verb _ _ _ _ c.in-Revoke.is (search rules)
