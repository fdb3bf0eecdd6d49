-- Look-ups and walks as requests: the checks that come first, and then the look-ups.
use Rattle.std.proofs.Common.{◌≡◌, ℕ, ◌<◌, List, ◌∷◌, length, get_or, slice_index_or, Some, None, Option, Ok, Err, Result, sym, refl, ap, ◌∙◌}
use Rattle.std.proofs.lemmas.Option.{get_or_from_slice_get, slice_get-get_or}
use Rattle.refusal.specs.Chains.{given, and_then, refused_as}
use Rattle.holder.specs.declared.capability.Capability.{Capability}
use Rattle.memory.specs.Wiped.{zero_row}
use Rattle.memory.specs.declared.row.Row.{Row}
use Rattle.admission.specs.Admission.{authentic_target, authorized_target}
use Rattle.admission.specs.declared.error.Denial.{Denial}
use Rattle.admission.specs.declared.target.Target.{Target}
use Rattle.rows.specs.Paths.{names_in, first_name, rest_of_path, names_in_rest}
use Rattle.rows.specs.Search.{place_of_name}
use Rattle.rows.proofs.PathFacts.{names_step}
use Rattle.store.specs.Inside.{admitted_at, validation}
use Rattle.store.specs.LookUp.{walk_end_at, walk_end, lookup_at, lookup_by, shown_now}
use Rattle.store.specs.Order.{authorized_object}
use Rattle.store.specs.Outcomes.{told_as}
use Rattle.store.specs.Requests.{found, look_up, walk, query}
use Rattle.store.specs.Rows.{directory_in, rows_in, row_at}
use Rattle.store.specs.Rules.{name_form, path_form, rule_of, to_see}
use Rattle.store.specs.Serve.{reply_to, told_at}
use Rattle.store.specs.State.{State}
use Rattle.store.specs.declared.row.DirectoryAt.{DirectoryAt}
use Rattle.store.specs.declared.error.StoreRefusal.{StoreRefusal}
use Rattle.store.specs.declared.error.StoreRefusal.TheVariants.{NoSuchRow, Denied}
use Rattle.store.proofs.OrderFacts.{parted, told_within}

-- the row at a place that there is, whatever stands for one past the end
pub index_any : (rows : List Row) (i : ℕ) (d e : Row) → i < length rows
    → slice_index_or rows i d ≡ slice_index_or rows i e
index_any rows i d e h =
    get_or_from_slice_get rows i (get_or rows i e) d (slice_get-get_or rows i e h)

-- what follows where there is one
pub row_found : {B : Type 0} (o : Option ℕ) (p : ℕ) (e : StoreRefusal)
    (next : ℕ → Result B StoreRefusal) → o ≡ Some p → next p ≡ given o e next
row_found o p e next s = sym (ap (λ o. given o e next) s)

-- what follows from what follows
pub and_then-and_then : {A B C E : Type 0} (r : Result A E) (first : A → Result B E)
    (next : B → Result C E)
    → and_then (and_then r first) next ≡ and_then r (λ a. and_then (first a) next)
and_then-and_then (Err e) first next = refl
and_then-and_then (Ok a) first next = refl

module _ (s : State) (c : Capability) where
  -- the gate, and what follows at the object
  pub gate_first : {A : Type 0} (place : ℕ) (next : Target → Result A StoreRefusal)
      → and_then (admitted_at s to_see c place) next
      ≡ and_then (refused_as (λ d. Denied d place)
      (authentic_target s.kept.family s.kept.port.bytes s.kept.own s.memory c)) (λ object.
      and_then (authorized_object to_see place c object) next)
  gate_first {A} place next =
      by (authentic_target s.kept.family s.kept.port.bytes s.kept.own s.memory c)
    where
      by : (x : Result Target Denial)
          → and_then (refused_as (λ d. Denied d place)
          (and_then x (λ object. authorized_target to_see object c.rights.bits))) next
          ≡ and_then (refused_as (λ d. Denied d place) x)
          (λ object. and_then (authorized_object to_see place c object) next)
      by (Ok t) = refl
      by (Err d) = refl

  -- a look-up from the directory that is seen
  pub look_from : (bs : List ℕ) (place : ℕ)
      → lookup_by s c bs place
      ≡ and_then (and_then (admitted_at s to_see c place) directory_in) (λ d.
      given (place_of_name bs (rows_in s.memory d)) (NoSuchRow place)
      (λ p. shown_now s c.rights.bits (slice_index_or (rows_in s.memory d) p zero_row) place))
  look_from bs place =
      sym (gate_first place (lookup_at s c.rights.bits bs place))
      ∙ by (admitted_at s to_see c place)
    where
      at_directory : (d : Result DirectoryAt StoreRefusal)
          → and_then (and_then d (λ d. given (place_of_name bs (rows_in s.memory d))
          (NoSuchRow place) (λ p. Ok (record {
            directory = d;
            row =
                p;
          })))) (λ at. shown_now s c.rights.bits (row_at s.memory at) place)
          ≡ and_then d (λ d. given (place_of_name bs (rows_in s.memory d)) (NoSuchRow place)
          (λ p. shown_now s c.rights.bits (slice_index_or (rows_in s.memory d) p zero_row)
          place))
      at_directory (Err e) = refl
      at_directory (Ok d) = of_row (place_of_name bs (rows_in s.memory d))
        where
          of_row : (o : Option ℕ)
              → and_then (given o (NoSuchRow place) (λ p. Ok (record {
                directory = d;
                row =
                    p;
              }))) (λ at. shown_now s c.rights.bits (row_at s.memory at) place)
              ≡ given o (NoSuchRow place)
              (λ p. shown_now s c.rights.bits (slice_index_or (rows_in s.memory d) p zero_row)
              place)
          of_row None = refl
          of_row (Some p) = refl

      by : (r : Result Target StoreRefusal)
          → and_then r (lookup_at s c.rights.bits bs place)
          ≡ and_then (and_then r directory_in)
          (λ d. given (place_of_name bs (rows_in s.memory d)) (NoSuchRow place)
          (λ p. shown_now s c.rights.bits (slice_index_or (rows_in s.memory d) p zero_row)
          place))
      by (Err e) = refl
      by (Ok t) = at_directory (directory_in t)

  pub look_up_reply : (bs : List ℕ)
      → told_as found (and_then (validation s (name_form bs)) (λ _. lookup_by s c bs 0))
      ≡ reply_to s c (look_up bs)
  look_up_reply bs =
      ap (told_as found) (ap (λ r. and_then (validation s (name_form bs)) (λ _. r))
      (sym (gate_first 0 (lookup_at s c.rights.bits bs 0)))
      ∙ sym (and_then-and_then (validation s (name_form bs)) (λ _. admitted_at s to_see c 0)
      (lookup_at s c.rights.bits bs 0)))
      ∙ told_within found (and_then (validation s (name_form bs)) (λ _. admitted_at s to_see c 0))
      (lookup_at s c.rights.bits bs 0)
      ∙ sym (parted s (rule_of (query (look_up bs))) c (told_at s c.rights.bits (look_up bs)))

  -- the first look-up of a walk begins where the capability presented is admitted
  walk_begins : (bs : List ℕ) (names : List (List ℕ))
      → walk_end s c (bs ∷ names) 1
      ≡ and_then (admitted_at s to_see c 1) (walk_end_at s c.rights.bits (bs ∷ names) 1)
  walk_begins bs names =
      ap (λ r. and_then r (λ x. walk_end s x names 2))
      (sym (gate_first 1 (lookup_at s c.rights.bits bs 1)))
      ∙ and_then-and_then (admitted_at s to_see c 1) (lookup_at s c.rights.bits bs 1)
      (λ x. walk_end s x names 2)

  pub walk_reply : (path : List ℕ)
      → told_as found (and_then (validation s (path_form path))
      (λ _. walk_end s c (names_in path) 1))
      ≡ reply_to s c (walk path)
  walk_reply path =
      let step = names_step path in
      let first : List ℕ = first_name path in
      let rest : List (List ℕ) = names_in_rest (rest_of_path path) in
      ap (told_as found) (ap (λ r. and_then (validation s (path_form path)) (λ _. r))
      (ap (λ names. walk_end s c names 1) step ∙ walk_begins first rest
      ∙ ap (λ names. and_then (admitted_at s to_see c 1) (walk_end_at s c.rights.bits names 1))
      (sym step))
      ∙ sym (and_then-and_then (validation s (path_form path)) (λ _. admitted_at s to_see c 1)
      (walk_end_at s c.rights.bits (names_in path) 1)))
      ∙ told_within found (and_then (validation s (path_form path)) (λ _. admitted_at s to_see c 1))
      (walk_end_at s c.rights.bits (names_in path) 1)
      ∙ sym (parted s (rule_of (query (walk path))) c (told_at s c.rights.bits (walk path)))
