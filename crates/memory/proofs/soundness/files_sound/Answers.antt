use Rattle.std.proofs.Common.{length, rules, tests, sym, ◌∙◌}
use Rattle.memory.specs.Soundness.{is_within_area, are_files_apart}
use Rattle.memory.proofs.Lists.{every_from_all, passed_and}
use Rattle.memory.proofs.soundness.files_sound.Goals as goal

pub returns-then-all : goal.returns-then-all
returns-then-all c =
    let memory = c.args.memory.now in
    passed_and _ _ _
    (sym (every_from_all (is_within_area (length memory.area.now)) _ _ c.all.result memory.files.now
    c.all.ensures.ran (cc) (λ x b q k. search (rules, tests))) ∙ c.if-all.true)
    (c.holds_of_each_two.ensures are_files_apart (λ x y r k. search rules))
