use Rattle.std.proofs.Common.{not, rules, tests, sym, ◌∙◌}
use Rattle.memory.specs.Names.{is_same_name, name_of}
use Rattle.memory.specs.Soundness.{is_row_sound}
use Rattle.memory.proofs.Lists.{every_from_all, passed_and}
use Rattle.memory.proofs.row_test.RowTest.rows.Goals as goal

pub returns-then-all : goal.returns-then-all
returns-then-all c =
    passed_and _ _ _
    (sym (every_from_all (is_row_sound c.args.self.modulus c.args.self.port.bytes) _ _ c.all.result
    c.args.rows.now c.all.ensures.ran (cc) (λ x b q k. search (rules, tests))) ∙ c.if-all.true)
    (c.holds_of_each_two.ensures (λ r r'. not (is_same_name (name_of r) (name_of r')))
    (λ x y r k. search rules))
