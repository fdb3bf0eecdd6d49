use Rattle.std.proofs.Common.{◌≡◌, sym, ◌∙◌}
use Rattle.rows.specs.Search.{row_object}
use Rattle.rows.proofs.LastFacts.{last_here, last_earlier}
use Rattle.rows.proofs.row_search.last_place.Goals as goal

pub returns-then-number : goal.returns-then-number
returns-then-number c =
    let o = c.args.object.value in
    let same : row_object c.in-Some.row.now ≡ o =
    sym c.number.ensures ∙ c.if-number.true ∙ c.number-in-Some.ensures in
    sym (last_here o _ _ _ c.in-Some.ensures.cases.0 same) ∙ c.loop-row.invariant

pub loop-row-preserved : goal.loop-row-preserved
loop-row-preserved c =
    let o = c.args.object.value in
    sym (last_earlier o _ _ _ c.in-Some.ensures.cases.0
    (λ e. c.if-number.false (c.number.ensures ∙ e ∙ sym c.number-in-Some.ensures)))
    ∙ c.loop-row.invariant
