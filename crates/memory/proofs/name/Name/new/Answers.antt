use Rattle.std.proofs.Common.{sym, ◌∙◌}
use Rattle.std.proofs.lemmas.Bool.{cond-true, cond-false}
use Rattle.memory.specs.Names.{is_lawful_name}
use Rattle.memory.proofs.name.Name.new.Goals as goal

pub returns-then-not-is_lawful_name : goal.returns-then-not-is_lawful_name
returns-then-not-is_lawful_name c =
    sym (cond-false (is_lawful_name c.args.bytes.now) _ _
    (sym c.is_lawful_name.ensures ∙ c.if-not-is_lawful_name.true))

pub returns : goal.returns
returns c =
    sym (cond-true (is_lawful_name c.args.bytes.now) _ _
    (sym c.is_lawful_name.ensures ∙ c.if-not-is_lawful_name.false))
