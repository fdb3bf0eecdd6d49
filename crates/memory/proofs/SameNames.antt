-- The sameness of names, by its test and in words.
use Rattle.std.proofs.Common.{◌≡◌, ℕ, true, List, Decides}
use Rattle.std.proofs.lemmas.Slice.Eq.{bytes_eq-Decides}
use Rattle.memory.specs.Names.{IsSameName, is_same_name}

pub same_name_decides : (a b : List ℕ) → Decides (is_same_name a b) (IsSameName a b)
unfolding is_same_name
same_name_decides = bytes_eq-Decides

pub same_name_true : (a b : List ℕ) → IsSameName a b → is_same_name a b ≡ true
same_name_true a b = (same_name_decides a b).1

pub same_name_words : (a b : List ℕ) → is_same_name a b ≡ true → IsSameName a b
same_name_words a b = (same_name_decides a b).0
