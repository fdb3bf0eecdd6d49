use Rattle.std.proofs.Common.{◌≡◌, ◌+◌, ◌%◌, ◌<◌, not, length, Some, None, ap, ◌∙◌, rules}
use Rattle.std.specs.Option.{MatchOption}
use Rattle.std.specs.List.{position}
use Rattle.table.specs.Table.{claimed_place}
use Rattle.table.proofs.TableFacts.{is_claimed, claimed_of_none, claimed_by_parts}
use Rattle.table.proofs.table.Table.claim.Goals as goal

pub returns-in_err-start-clause-value : goal.returns-in_err-start-clause-value
returns-in_err-start-clause-value g c = search (rules, claimed_of_none)

pub returns-clause-value : goal.returns-clause-value
returns-clause-value g c =
    let live = g.S.Record.Record.is_live in
    let records = c.as_slice-records.result.now in
    let before = c.split_at.result.0.now in
    let from = c.split_at.result.1.now in
    let next = c.args.self.now.next in
    let start = c.in_ok-start.start in
    let ahead = c.first_free.result in
    let placed = c.map.result in
    let round = c.or_else.result in
    let at : start ≡ next % length records = search rules in
    let some : next % length records < length records = search rules in
    let first : ahead ≡ position (λ x. not (live x)) from = search rules in
    let mapped : MatchOption ahead (placed ≡ None) (λ s. placed ≡ Some (start + s)) =
    search rules in
    let tried : MatchOption placed (round ≡ position (λ x. not (live x)) before)
    (λ p. round ≡ Some p) =
    search rules in
    claimed_by_parts live records next start before from ahead placed round at some
    c.split_at.ensures.front c.split_at.ensures.back first mapped tried
    ∙ ap (λ xs. claimed_place live xs next) c.as_slice-records.ensures

pub returns-clause-words : goal.returns-clause-words
returns-clause-words g c = is_claimed _ _ _ _ (returns-clause-value g c)
