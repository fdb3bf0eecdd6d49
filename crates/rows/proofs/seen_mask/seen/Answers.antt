use Rattle.rows.proofs.SeenFacts.{joined, joined_byte, from_words}
use Rattle.rows.proofs.seen_mask.seen.Goals as goal

pub returns-clause-value : goal.returns-clause-value
returns-clause-value c =
    from_words c.args.rights.bits c.args.masks _
    (joined_byte c.column-works.result c.column-inspector.result c.column-buyer.result
    c.column-works.type_inv c.column-inspector.type_inv c.column-buyer.type_inv)
    (joined c.args.rights.bits c.args.masks _ _ _ c.column-works.ensures c.column-inspector.ensures
    c.column-buyer.ensures)

pub returns-clause-words : goal.returns-clause-words
returns-clause-words c =
    joined c.args.rights.bits c.args.masks _ _ _ c.column-works.ensures c.column-inspector.ensures
    c.column-buyer.ensures
