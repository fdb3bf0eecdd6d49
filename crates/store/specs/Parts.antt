-- Parts of a list: so many elements from a start on, and others written there.
use Rattle.std.specs.Prelude.{ℕ, ◌+◌, List, ◌++◌, length, take, drop}

abbrev pub part_of : {A : Type 0} → ℕ → ℕ → List A → List A
part_of start len xs = take len (drop start xs)

-- a list with others written from a start on
abbrev pub with_part : {A : Type 0} → List A → ℕ → List A → List A
with_part xs start ys = take start xs ++ (ys ++ drop (start + length ys) xs)
