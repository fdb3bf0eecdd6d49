use Rattle.std.proofs.Common.{ℕ, ◌∙◌, List, ◌++◌, ap, length}
use Rattle.std.proofs.lemmas.List.{drop-replicate}
use Rattle.memory.specs.declared.row.Row.{Row}
use Rattle.rows.specs.Changes.{row_of}
use Rattle.rows.proofs.row_changes.row_of.Goals as goal

pub returns-clause-value : goal.returns-clause-value
returns-clause-value c =
    let name = c.bytes-name.result.now in
    let row : List ℕ → Row = λ bs. row_of bs c.args.capability c.args.masks in
    rw c.copy_from_slice.ensures.after
    (ap (λ zeros. record (row name) { name = name ++ zeros })
    (drop-replicate (length name) 24 0)
    ∙ ap row c.bytes-name.ensures)
