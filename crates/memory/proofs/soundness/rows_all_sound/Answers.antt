use Rattle.std.proofs.Common.{rules, tests, sym, ◌∙◌}
use Rattle.memory.specs.Soundness.{has_few_rows}
use Rattle.memory.proofs.Lists.{every_from_all, passed_and}
use Rattle.memory.proofs.soundness.rows_all_sound.Goals as goal

pub returns-then-all : goal.returns-then-all
returns-then-all g c =
    passed_and _ _ _
    (sym (every_from_all has_few_rows _ _ c.all.result c.args.memory.now.directories.now
    c.all.ensures.ran (cc) (λ x b q k. search (rules, tests))) ∙ c.if-all.true)
    (search rules)
