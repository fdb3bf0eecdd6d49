-- A path followed name by name.
use Rattle.std.proofs.Common.{◌≡◌, ℕ, suc, ◌+◌, ◌<◌, List, length, Some, None, Ok, Err, Option, Result, sym, ap, ◌∙◌, arith}
use Rattle.std.specs.Borrow.{Bor}
use Rattle.std.specs.Option.{option_map}
use Rattle.refusal.specs.Chains.{and_then}
use Rattle.holder.specs.declared.capability.Capability.{Capability}
use Rattle.rows.specs.Paths.{names_in, first_name, rest_of_path, names_in_rest}
use Rattle.rows.proofs.PathFacts.{names_step, after_shorter}
use Rattle.store.specs.LookUp.{walk_end, lookup_by}
use Rattle.store.specs.State.{State}
use Rattle.store.specs.declared.error.StoreRefusal.{StoreRefusal}

-- the names that are left, and how many bytes and one there are yet
abbrev pub names_left : Option (Bor (List ℕ)) → List (List ℕ)
names_left rest = names_in_rest (option_map (λ r. r.now) rest)

abbrev pub bytes_left : Option (Bor (List ℕ)) → ℕ
bytes_left None = 0
bytes_left (Some r) = 1 + length r.now

-- there are fewer behind the first slash
pub fewer_left : (path : List ℕ) (rest : Option (Bor (List ℕ)))
    → option_map (λ r. r.now) rest ≡ rest_of_path path → bytes_left rest < 1 + length path
fewer_left path None e = omega arith
fewer_left path (Some r) e = omega (arith, after_shorter path r.now (sym e))

module _ (s : State) (c : Capability) (path : List ℕ) (place : ℕ) where
  one_step : (r : Result Capability StoreRefusal) → lookup_by s c (first_name path) place ≡ r
      → walk_end s c (names_in path) place
      ≡ and_then r (λ x. walk_end s x (names_in_rest (rest_of_path path)) (place + 1))
  one_step r e =
      ap (λ names. walk_end s c names place) (names_step path)
      ∙ ap (λ r. and_then r (λ x. walk_end s x (names_in_rest (rest_of_path path)) (place + 1))) e

  -- a name looked up, and the others after it
  pub followed : (x : Capability) → lookup_by s c (first_name path) place ≡ Ok x
      → walk_end s x (names_in_rest (rest_of_path path)) (place + 1)
      ≡ walk_end s c (names_in path) place
  followed x e = sym (one_step (Ok x) e)

  -- a name refused, and with it the walk
  pub refused : (e : StoreRefusal) → lookup_by s c (first_name path) place ≡ Err e
      → Err e ≡ walk_end s c (names_in path) place
  refused r e = sym (one_step (Err r) e)

  -- one name more than those behind it
  pub one_more : length (names_in path) ≡ suc (length (names_in_rest (rest_of_path path)))
  one_more = ap length (names_step path)
