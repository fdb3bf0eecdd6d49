-- What a request that is not refused comes to, and the outcome of any request.
use Rattle.std.specs.Prelude.{ℕ, List, Ok, Err, Result}
use Rattle.store.specs.Requests.{Told}
use Rattle.store.specs.State.{State}
use Rattle.store.specs.declared.error.StoreRefusal.{StoreRefusal}

-- what is told, and the state then
pub record Change : Type 0 where
  pub told : Told
  pub after : State

-- the answer, and what is left behind: the state, and the scratch
pub record Outcome : Type 0 where
  pub answer : Result Told StoreRefusal
  pub after : State
  pub scratch : List ℕ

abbrev pub outcome : Result Told StoreRefusal → State → List ℕ → Outcome
outcome answer s scratch = record { answer = answer; after = s; scratch = scratch }

-- a refusal changes neither the store nor memory
abbrev pub outcome_by : State → List ℕ → Result Change StoreRefusal → Outcome
outcome_by s scratch (Ok change) = outcome (Ok change.told) change.after scratch
outcome_by s scratch (Err e) = outcome (Err e) s scratch

-- the answer of a call of its own, told as the answers of all requests are
abbrev pub told_as : {A : Type 0} → (A → Told) → Result A StoreRefusal → Result Told StoreRefusal
told_as tell (Ok a) = Ok (tell a)
told_as tell (Err e) = Err e
