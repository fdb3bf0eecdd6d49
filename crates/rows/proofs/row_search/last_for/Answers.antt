use Rattle.std.proofs.Common.{sym, subst}
use Rattle.rows.specs.Search.{IsLastPlace}
use Rattle.rows.proofs.LastFacts.{last_within, last_words}
use Rattle.rows.proofs.row_search.last_for.Goals as goal

pub returns-clause-words : goal.returns-clause-words
returns-clause-words c =
    let o = c.args.object.value in
    let rows = c.args.rows.now in
    subst (IsLastPlace o rows) (sym c.last_place.ensures) (last_words o rows)

pub returns-clause-within : goal.returns-clause-within
returns-clause-within c = rw c.last_place.ensures (last_within c.args.object.value c.args.rows.now)
