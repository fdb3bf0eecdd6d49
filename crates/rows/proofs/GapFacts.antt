-- Rows with the last one written, and rows moved down over a place.
use Rattle.std.proofs.Common.{◌≡◌, ℕ, ◌+◌, ◌-◌, ◌<◌, ltb, List, [], ◌∷◌, ◌++◌, length, take, set, sym, ◌∙◌, arith}
use Rattle.std.proofs.lemmas.Bool.{cond-true, lt-ltb}
use Rattle.std.proofs.lemmas.List.{take_more_set, take_all, length-set}
use Rattle.rows.specs.Changes.{with_last}
use Rattle.memory.specs.declared.row.Row.{Row}

-- writing at the last place
module _ (row : Row) (rows : List Row) (some : 0 < length rows) where
  pub set_last : set rows (length rows - 1) row ≡ take (length rows - 1) rows ++ row ∷ []
  set_last =
      let last : ℕ = length rows - 1 in
      sym (take_all (last + 1) (set rows last row) (omega (arith, length-set rows last row)))
      ∙ take_more_set rows last row (omega arith)

  pub set_with_last : set rows (length rows - 1) row ≡ with_last row rows
  set_with_last = set_last ∙ sym (cond-true (ltb 0 (length rows)) _ _ (lt-ltb 0 (length rows) some))
