use Rattle.std.proofs.Common.{◌≡◌, rules, refl, sym, ◌∙◌}
use Rattle.std.proofs.lemmas.Fn.{says_at_two}
use Rattle.std.specs.List.{list_all}
use Rattle.memory.proofs.Lists.{every_from_all, first_agrees, first_differs}
use Rattle.memory.proofs.each_two.holds_of_each_two.Goals as goal

pub returns-then-not-all : goal.returns-then-not-all
returns-then-not-all g c p computes =
    let item = c.in-Some.item in
    let later = c.in-Some.later.now in
    let whole : c.all.result ≡ list_all (p item.now) later
    =
    every_from_all (p item.now) _ _ c.all.result later c.all.ensures.ran (cc)
    (λ x b q k. (
      search rules,
      computes _ _ b (says_at_two g.F.Fn {y = item} {z =
          x} (search rules) refl),
    )) in
    sym (sym (c.loop-item.invariant p computes)
    ∙ first_differs p _ _ _ c.in-Some.ensures.cases.0 (sym whole ∙ c.if-not-all.true))

pub loop-item-preserved : goal.loop-item-preserved
loop-item-preserved g c p computes =
    let item = c.in-Some.item in
    let later = c.in-Some.later.now in
    let whole : c.all.result ≡ list_all (p item.now) later
    =
    every_from_all (p item.now) _ _ c.all.result later c.all.ensures.ran (cc)
    (λ x b q k. (
      search rules,
      computes _ _ b (says_at_two g.F.Fn {y = item} {z =
          x} (search rules) refl),
    )) in
    first_agrees p _ _ _ c.in-Some.ensures.cases.0 (sym whole ∙ c.if-not-all.false)
    ∙ c.loop-item.invariant p computes
