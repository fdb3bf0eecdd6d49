use Rattle.std.proofs.Common.{[], Ok, sym, ap, ◌∙◌}
use Rattle.std.proofs.lemmas.Result.{err_from_is_err_and}
use Rattle.refusal.specs.Chains.{and_then}
use Rattle.store.specs.Outcomes.{outcome, outcome_by}
use Rattle.store.specs.Remove.{without_row}
use Rattle.store.specs.Requests.{done}
use Rattle.store.specs.State.{State, state}
use Rattle.store.proofs.OrderFacts.{remove_outcome}
use Rattle.store.proofs.store.Store.remove.Goals as goal

pub returns-in_err-at-clause-outcome : goal.returns-in_err-at-clause-outcome
returns-in_err-at-clause-outcome g c =
    let s : State = state g.F.CommutingFamily.meaning c.args.self.now c.args.memory.now in
    let p = err_from_is_err_and c.from_residual.result c.from_residual.ensures.1 in
    rw (p.1, p.2) (ap (λ r. outcome_by s [] (and_then r (λ at. Ok (without_row s at))))
    (sym c.in_err-at.was ∙ c.find_row.ensures.row)
    ∙ remove_outcome s c.args.capability c.args.name.now c.rule-rule.result c.rule-rule.ensures)

pub returns-clause-outcome : goal.returns-clause-outcome
returns-clause-outcome g c =
    let s : State = state g.F.CommutingFamily.meaning c.args.self.now c.args.memory.now in
    ap (λ after. outcome (Ok done) after []) c.erase_row.ensures.after
    ∙ ap (λ r. outcome_by s [] (and_then r (λ at. Ok (without_row s at))))
    (sym c.in_ok-at.was ∙ c.find_row.ensures.row)
    ∙ remove_outcome s c.args.capability c.args.name.now c.rule-rule.result c.rule-rule.ensures
