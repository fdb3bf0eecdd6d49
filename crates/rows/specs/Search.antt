-- Searching a directory's counted rows: for a name, and for an object.
use Rattle.std.specs.Prelude.{◌≡◌, ℕ, suc, ◌<◌, Bool, if◌then◌else◌, List, [], ◌∷◌, Some, None, Option, ◌==◌, position, slice_get}
use Rattle.memory.specs.Names.{is_same_name, name_of}
use Rattle.memory.specs.declared.row.Row.{Row}

-- the place of the first row of that name
abbrev pub place_of_name : List ℕ → List Row → Option ℕ
place_of_name name rows = position (λ row. is_same_name (name_of row) name) rows

-- the number of the object that a row holds a capability for
abbrev pub row_object : Row → ℕ
row_object row = row.capability.object.value

-- a place found behind a row, or else that row's own where it is one
abbrev pub behind_or_here : Option ℕ → Bool → Option ℕ
behind_or_here (Some p) here = Some (suc p)
behind_or_here None here = if here then Some 0 else None

-- the place of the row entered last that holds a capability for the object of that number
abbrev pub place_of_object : ℕ → List Row → Option ℕ
place_of_object o [] = None
place_of_object o (row ∷ rows) = behind_or_here (place_of_object o rows) (row_object row == o)

-- the row at a place is there, and it holds a capability for the object
pub record HoldsAt (o : ℕ) (rows : List Row) (p : ℕ) : Type 0 where
  pub row : Row
  pub there : slice_get rows p ≡ Some row
  pub object : row_object row ≡ o

-- the same in words: that row holds one and no later row does; or nothing, and no row does
pub record IsLastPlace (o : ℕ) (rows : List Row) (r : Option ℕ) : Type 0 where
  pub held_there : (p : ℕ) → r ≡ Some p → HoldsAt o rows p
  pub none_later : (p : ℕ) → r ≡ Some p → (q : ℕ) → p < q → HoldsAt o rows q → ⊥
  pub none_at_all : r ≡ None → (q : ℕ) → HoldsAt o rows q → ⊥
