use Rattle.std.proofs.Common.{refl, ap, ◌∙◌, rules}
use Rattle.refusal.specs.Chains.{and_then}
use Rattle.memory.specs.Held.{content}
use Rattle.rows.specs.Search.{place_of_object}
use Rattle.store.specs.Inside.{admitted_by}
use Rattle.store.specs.Outcomes.{told_as}
use Rattle.store.specs.Requests.{the_size, found, the_name, query}
use Rattle.store.specs.Rows.{name_at, nth_place, wanted_row}
use Rattle.store.specs.Rules.{rule_of}
use Rattle.store.specs.State.{State, state}
use Rattle.store.specs.Values.{query_of}
use Rattle.store.specs.declared.request.Answer.TheVariants.{Length, Found}
use Rattle.store.proofs.OrderFacts.{row_reply, name_reply}
use Rattle.store.proofs.Telling.{told_alike}
use Rattle.store.proofs.store.Store.query.Goals as goal

pub returns-in-Read-clause-reply : goal.returns-in-Read-clause-reply
returns-in-Read-clause-reply g c = rw c.in-Read.is c.tell_part.ensures.reply

pub returns-in-Size-clause-reply : goal.returns-in-Size-clause-reply
returns-in-Size-clause-reply g c = rw c.in-Size.is
    (told_alike (content c.args.memory.now) the_size Length _ _ _ (λ _. refl)
    (λ x y p. search rules) c.map.ensures.cases ∙ c.size.ensures.reply)

pub returns-in-LookUp-clause-reply : goal.returns-in-LookUp-clause-reply
returns-in-LookUp-clause-reply g c = rw c.in-LookUp.is
    (told_alike (content c.args.memory.now) found Found _ _ _ (λ _. refl) (λ x y p. search rules)
    c.map-in-LookUp.ensures.cases ∙ c.look_up.ensures.reply)

pub returns-in-Walk-clause-reply : goal.returns-in-Walk-clause-reply
returns-in-Walk-clause-reply g c = rw c.in-Walk.is
    (told_alike (content c.args.memory.now) found Found _ _ _ (λ _. refl) (λ x y p. search rules)
    c.map-in-Walk.ensures.cases ∙ c.walk.ensures.reply)

pub returns-in-Row-clause-reply : goal.returns-in-Row-clause-reply
returns-in-Row-clause-reply g c =
    let s : State = state g.F.CommutingFamily.meaning c.args.self.now c.args.memory.now in
    rw c.in-Row.is (c.tell_row.ensures.reply
    ∙ ap (λ rule. told_as (λ at. the_name (name_at s.memory at))
    (and_then (admitted_by s rule c.args.capability)
    (wanted_row s.memory (nth_place c.in-Row.n) 0)))
    (c.rule-rule.ensures ∙ ap (λ q. rule_of (query (query_of q))) c.in-Row.is)
    ∙ row_reply s c.args.capability c.in-Row.n)

pub returns-in-Name-clause-reply : goal.returns-in-Name-clause-reply
returns-in-Name-clause-reply g c =
    let s : State = state g.F.CommutingFamily.meaning c.args.self.now c.args.memory.now in
    rw c.in-Name.is (c.tell_row-in-Name.ensures.reply
    ∙ ap (λ rule. told_as (λ at. the_name (name_at s.memory at))
    (and_then (admitted_by s rule c.args.capability)
    (wanted_row s.memory (place_of_object c.in-Name.object.value) 0)))
    (c.rule-rule.ensures ∙ ap (λ q. rule_of (query (query_of q))) c.in-Name.is)
    ∙ name_reply s c.args.capability c.in-Name.object.value)
