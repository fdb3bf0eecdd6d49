use Rattle.std.proofs.Common.{rules, tests, sym, ◌∙◌}
use Rattle.memory.specs.Soundness.{is_secret_below}
use Rattle.memory.proofs.Lists.{every_from_all, passed_and}
use Rattle.memory.proofs.soundness.secrets_below.Goals as goal

pub returns-then-all : goal.returns-then-all
returns-then-all g c =
    let n = (g.F.CommutingFamily.meaning c.args.family.now).modulus in
    let memory = c.args.memory.now in
    passed_and _ _ _
    (sym (every_from_all (λ r. is_secret_below n r.live r.secret) _ _ c.all.result memory.files.now
    c.all.ensures.ran (cc) (λ x b q k. search (rules, tests))) ∙ c.if-all.true)
    (every_from_all (λ d. is_secret_below n d.live d.secret) _ _ c.all-then-all.result
    memory.directories.now c.all-then-all.ensures.ran (cc) (λ x b q k. search (rules, tests)))
