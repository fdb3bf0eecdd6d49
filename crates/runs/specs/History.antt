-- A run of a store: requests one after the other, each over what the one before left, and what they
-- were answered. The newest come first.
use Rattle.std.specs.Prelude.{ℕ, List, [], ◌∷◌, Ok, Err, Result}
use Rattle.holder.specs.declared.capability.Capability.{Capability}
use Rattle.store.specs.Outcomes.{Outcome}
use Rattle.store.specs.Requests.{Ask, Told}
use Rattle.store.specs.Serve.{request_outcome}
use Rattle.store.specs.State.{State}
use Rattle.store.specs.declared.error.StoreRefusal.{StoreRefusal}

-- a request with the capability that it presents, and the scratch that lies beside it
pub record Call : Type 0 where
  pub presented : Capability
  pub ask : Ask
  pub scratch : List ℕ

-- a call that presents a capability
abbrev pub call_with : Capability → Ask → List ℕ → Call
call_with c ask scratch = record { presented = c; ask = ask; scratch = scratch }

-- a request and its answer
pub record Event : Type 0 where
  pub call : Call
  pub answer : Result Told StoreRefusal

-- what a request comes to in a state: the very outcome that the store's calls promise
abbrev pub outcome_in : State → Call → Outcome
outcome_in s call = request_outcome s call.presented call.ask call.scratch

abbrev pub answer_in : State → Call → Result Told StoreRefusal
answer_in s call = (outcome_in s call).answer

-- what follows from an answer: a refusal leaves it as it is
abbrev pub on_answer : {A : Type 0} → A → (Told → A) → Result Told StoreRefusal → A
on_answer old new (Ok told) = new told
on_answer old new (Err e) = old

-- the state after a list of requests
unfoldable pub state_after : State → List Call → State
state_after s [] = s
state_after s (r ∷ rs) = (outcome_in (state_after s rs) r).after

-- what happened on the way there
unfoldable pub history : State → List Call → List Event
history s [] = []
history s (r ∷ rs) = record { call = r; answer = answer_in (state_after s rs) r } ∷ history s rs
