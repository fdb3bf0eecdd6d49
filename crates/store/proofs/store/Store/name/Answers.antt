use Rattle.std.proofs.Common.{ap, ◌∙◌}
use Rattle.refusal.specs.Chains.{and_then}
use Rattle.rows.specs.Search.{place_of_object}
use Rattle.store.specs.Inside.{admitted_by}
use Rattle.store.specs.Outcomes.{told_as}
use Rattle.store.specs.Requests.{name, the_name}
use Rattle.store.specs.Rows.{name_at, wanted_row}
use Rattle.store.specs.Rules.{plain, to_see}
use Rattle.store.specs.State.{State, state}
use Rattle.rows.proofs.LastFacts.{last_within}
use Rattle.store.proofs.AnswerWords.{name_words}
use Rattle.store.proofs.OrderFacts.{name_reply, told_within}
use Rattle.store.proofs.store.Store.name.Goals as goal

pub returns-clause-reply : goal.returns-clause-reply
returns-clause-reply g c =
    let s : State = state g.F.CommutingFamily.meaning c.args.self.now c.args.memory.now in
    c.name_of.ensures
    ∙ ap (λ rule. told_as (λ at. the_name (name_at s.memory at))
    (and_then (admitted_by s rule c.args.capability)
    (wanted_row s.memory (place_of_object c.args.object.value) 0))) c.rule.ensures
    ∙ name_reply s c.args.capability c.args.object.value

pub returns-clause-with_object : goal.returns-clause-with_object
returns-clause-with_object g c =
    let s : State = state g.F.CommutingFamily.meaning c.args.self.now c.args.memory.now in
    name_words s c.args.capability (name c.args.object.value) (place_of_object c.args.object.value)
    c.name_of.result (last_within c.args.object.value)
    (c.name_of.ensures
    ∙ ap (λ rule. told_as (λ at. the_name (name_at s.memory at))
    (and_then (admitted_by s rule c.args.capability)
    (wanted_row s.memory (place_of_object c.args.object.value) 0))) c.rule.ensures
    ∙ told_within (λ at. the_name (name_at s.memory at))
    (admitted_by s (plain to_see) c.args.capability)
    (wanted_row s.memory (place_of_object c.args.object.value) 0))
