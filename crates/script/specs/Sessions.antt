-- What there is between two lines of a session, and what a line comes to.
use Rattle.std.specs.Prelude.{List, Option, Result}
use Rattle.family.specs.Commuting.{Family}
use Rattle.refusal.specs.declared.Refusal.{Refusal}
use Rattle.holder.specs.declared.capability.Capability.{Capability}
use Rattle.memory.specs.declared.memory.Memory.{Memory}
use Rattle.store.specs.State.{State, state}
use Rattle.store.specs.Requests.{Told}
use Rattle.script.specs.declared.session.Session.{Session}

-- the pockets of the holders, and the state of the store
pub record SessionState : Type 0 where
  pub pockets : List (Option Capability)
  pub store : State

abbrev pub session_of : List (Option Capability) → State → SessionState
session_of pockets store = record { pockets = pockets; store = store }

-- what is told, or the refusal, and what there is afterwards
pub record LineOutcome : Type 0 where
  pub told : Result Told Refusal
  pub after : SessionState

abbrev pub line_outcome : Result Told Refusal → SessionState → LineOutcome
line_outcome told s = record { told = told; after = s }

-- a session of the code, over memory
abbrev pub session_state : {F : Type 0} → (F → Family) → Session F → Memory → SessionState
session_state meaning session memory =
    session_of session.pockets.places (state meaning session.store memory)
