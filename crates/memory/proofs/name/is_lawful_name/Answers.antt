use Rattle.std.proofs.Common.{rules, tests, ◌≡◌, true, leb, length}
use Rattle.memory.specs.Names.{is_name_byte}
use Rattle.memory.proofs.Lists.{every_from_all, passed_and}
use Rattle.memory.proofs.name.is_lawful_name.Goals as goal

pub returns-then-contains : goal.returns-then-contains
returns-then-contains c =
    let bytes = c.args.bytes.now in
    let from : leb 1 (length bytes) ≡ true = search (rules, tests) in
    let to : leb (length bytes) 24 ≡ true = search (rules, tests) in
    passed_and _ _ _ from (passed_and _ _ _ to
    (every_from_all is_name_byte _ _ c.all.result bytes c.all.ensures.ran (cc)
    (λ x b q k. search (rules, tests))))
