use Rattle.std.proofs.Common.{◌≡◌, ℕ, Bool, true, false, List, [], Some, None, Option, Ok, if◌then◌else◌, sym, ap, ◌∙◌}
use Rattle.std.specs.Option.{option_map}
use Rattle.std.proofs.lemmas.Result.{err_from_is_err_and}
use Rattle.refusal.specs.Chains.{and_then}
use Rattle.memory.specs.Names.{is_lawful_name, checked_name}
use Rattle.memory.specs.declared.name.Name.{Name}
use Rattle.rows.specs.Changes.{row_of}
use Rattle.store.specs.Enter.{with_row}
use Rattle.store.specs.Outcomes.{outcome, outcome_by}
use Rattle.store.specs.Requests.{done}
use Rattle.store.specs.State.{State, state}
use Rattle.store.proofs.OrderFacts.{enter_outcome}
use Rattle.store.proofs.store.Store.enter.Goals as goal

-- a name has the bytes that it was made of
bytes_of_name : (made : Option Name) (n : Name) (bs : List ℕ)
    → option_map (λ n. n.bytes.now) made ≡ checked_name bs → made ≡ Some n → n.bytes.now ≡ bs
bytes_of_name made n bs e is =
    by (is_lawful_name bs) (sym (ap (option_map (λ n. n.bytes.now)) is) ∙ e)
  where
    by : (lawful : Bool) → Some n.bytes.now ≡ (if lawful then Some bs else None) → n.bytes.now ≡ bs
    by true e = cc
    by false e = absurd (cc)

pub returns-in_err-directory-clause-outcome : goal.returns-in_err-directory-clause-outcome
returns-in_err-directory-clause-outcome g c =
    let s : State = state g.F.CommutingFamily.meaning c.args.self.now c.args.memory.now in
    let p = err_from_is_err_and c.from_residual.result c.from_residual.ensures.1 in
    rw (p.1, p.2) (ap (λ r. outcome_by s []
    (and_then r (λ d. Ok (with_row s (row_of c.args.name.now c.args.entry c.args.masks) d))))
    (sym c.in_err-directory.was ∙ c.find_room.ensures.directory)
    ∙ enter_outcome s c.args.capability c.args.name.now c.args.entry c.args.masks c.rule-rule.result
    c.rule-rule.ensures)

pub returns-clause-outcome : goal.returns-clause-outcome
returns-clause-outcome g c =
    let s : State = state g.F.CommutingFamily.meaning c.args.self.now c.args.memory.now in
    ap (λ after. outcome (Ok done) after []) (c.write_row.ensures.after
    ∙ ap (λ row. (with_row s row c.in_ok-directory.directory).after) (c.row_of.ensures.value
    ∙ ap (λ bs. row_of bs c.args.entry c.args.masks)
    (bytes_of_name c.new.result c.unwrap-name.result c.args.name.now c.new.ensures
    c.unwrap-name.ensures)))
    ∙ ap (λ r. outcome_by s []
    (and_then r (λ d. Ok (with_row s (row_of c.args.name.now c.args.entry c.args.masks) d))))
    (sym c.in_ok-directory.was ∙ c.find_room.ensures.directory)
    ∙ enter_outcome s c.args.capability c.args.name.now c.args.entry c.args.masks c.rule-rule.result
    c.rule-rule.ensures
