use Rattle.std.proofs.Common.{rules}
use Rattle.script.proofs.DeedFacts.{of_step}
use Rattle.script.proofs.pockets.Pockets.deed.Goals as goal

pub returns-in-File : goal.returns-in-File
returns-in-File c = of_step _ _ _ _ c.in-File.is (search rules)

pub returns-in-Directory : goal.returns-in-Directory
returns-in-Directory c = of_step _ _ _ _ c.in-Directory.is (search rules)

pub returns-in-Drop : goal.returns-in-Drop
returns-in-Drop c = of_step _ _ _ _ c.in-Drop.is (search rules)

pub returns-in_err-held-in-Enter : goal.returns-in_err-held-in-Enter
returns-in_err-held-in-Enter c = of_step _ _ _ _ c.in-Enter.is (search rules)

pub returns-in_ok-held-in-Enter : goal.returns-in_ok-held-in-Enter
returns-in_ok-held-in-Enter c = of_step _ _ _ _ c.in-Enter.is (search rules)

pub returns-in-Remove : goal.returns-in-Remove
returns-in-Remove c = of_step _ _ _ _ c.in-Remove.is (search rules)

pub returns-in-LookUp : goal.returns-in-LookUp
returns-in-LookUp c = of_step _ _ _ _ c.in-LookUp.is (search rules)

pub returns-in-Walk : goal.returns-in-Walk
returns-in-Walk c = of_step _ _ _ _ c.in-Walk.is (search rules)

pub returns-in-Row : goal.returns-in-Row
returns-in-Row c = of_step _ _ _ _ c.in-Row.is (search rules)

pub returns-in_err-held-in-Name : goal.returns-in_err-held-in-Name
returns-in_err-held-in-Name c = of_step _ _ _ _ c.in-Name.is (search rules)

pub returns-in_ok-held-in-Name : goal.returns-in_ok-held-in-Name
returns-in_ok-held-in-Name c = of_step _ _ _ _ c.in-Name.is (search rules)

pub returns-in-Revoke : goal.returns-in-Revoke
returns-in-Revoke c = of_step _ _ _ _ c.in-Revoke.is (search rules)
