use Rattle.std.proofs.Common.{◌≡◌, true, None, Some, option_map, sym, ap, ◌∙◌}
use Rattle.memory.specs.Names.{is_lawful_name}
use Rattle.rows.specs.Paths.{first_name, rest_of_path}
use Rattle.rows.proofs.PathFacts.{first_fails, last_passes, judged_later, too_many}
use Rattle.rows.proofs.path.is_lawful_path.Goals as goal

pub returns-then-not-is_lawful_name-clause-value : goal.returns-then-not-is_lawful_name-clause-value
returns-then-not-is_lawful_name-clause-value c =
    first_fails c.names.counter c.names.rest.now
    (ap is_lawful_name (sym c.split_first-split.ensures.first) ∙ sym c.is_lawful_name.ensures
    ∙ c.if-not-is_lawful_name.true) ∙ c.names.invariant

pub returns-in-None-clause-value : goal.returns-in-None-clause-value
returns-in-None-clause-value c =
    let lawful : is_lawful_name (first_name c.names.rest.now) ≡ true =
    ap is_lawful_name (sym c.split_first-split.ensures.first) ∙ sym c.is_lawful_name.ensures
    ∙ c.if-not-is_lawful_name.false in
    let behind : rest_of_path c.names.rest.now ≡ None =
    sym c.split_first-split.ensures.rest ∙ ap (option_map (λ r. r.now)) c.in-None.is in
    last_passes c.names.counter c.names.rest.now lawful behind c.names-test.true ∙ c.names.invariant

pub names-preserved : goal.names-preserved
names-preserved c =
    let lawful : is_lawful_name (first_name c.names.rest.now) ≡ true =
    ap is_lawful_name (sym c.split_first-split.ensures.first) ∙ sym c.is_lawful_name.ensures
    ∙ c.if-not-is_lawful_name.false in
    let behind : rest_of_path c.names.rest.now ≡ Some c.in-Some.later.now =
    sym c.split_first-split.ensures.rest ∙ ap (option_map (λ r. r.now)) c.in-Some.is in
    judged_later c.names.counter c.names.rest.now c.in-Some.later.now lawful behind
    ∙ c.names.invariant

pub returns-clause-value : goal.returns-clause-value
returns-clause-value c =
    too_many c.names.counter c.names.rest.now c.names-test.false ∙ c.names.invariant
