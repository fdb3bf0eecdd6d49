use Rattle.std.proofs.Common.{ap, ◌∙◌}
use Rattle.refusal.specs.Chains.{and_then}
use Rattle.store.specs.Inside.{admitted_by}
use Rattle.store.specs.Outcomes.{told_as}
use Rattle.store.specs.Requests.{row, the_name}
use Rattle.store.specs.Rows.{name_at, nth_place, wanted_row}
use Rattle.store.specs.Rules.{plain, to_see}
use Rattle.store.specs.State.{State, state}
use Rattle.store.proofs.AnswerWords.{name_words, nth_within}
use Rattle.store.proofs.OrderFacts.{row_reply, told_within}
use Rattle.store.proofs.store.Store.row.Goals as goal

pub returns-clause-reply : goal.returns-clause-reply
returns-clause-reply g c =
    let s : State = state g.F.CommutingFamily.meaning c.args.self.now c.args.memory.now in
    c.name_of.ensures
    ∙ ap (λ rule. told_as (λ at. the_name (name_at s.memory at))
    (and_then (admitted_by s rule c.args.capability)
    (wanted_row s.memory (nth_place c.args.n) 0))) c.rule.ensures
    ∙ row_reply s c.args.capability c.args.n

pub returns-clause-nth : goal.returns-clause-nth
returns-clause-nth g c =
    let s : State = state g.F.CommutingFamily.meaning c.args.self.now c.args.memory.now in
    name_words s c.args.capability (row c.args.n) (nth_place c.args.n) c.name_of.result
    (nth_within c.args.n)
    (c.name_of.ensures
    ∙ ap (λ rule. told_as (λ at. the_name (name_at s.memory at))
    (and_then (admitted_by s rule c.args.capability)
    (wanted_row s.memory (nth_place c.args.n) 0))) c.rule.ensures
    ∙ told_within (λ at. the_name (name_at s.memory at))
    (admitted_by s (plain to_see) c.args.capability)
    (wanted_row s.memory (nth_place c.args.n) 0))
