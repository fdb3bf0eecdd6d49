-- Acceptance, as the answers show it.
use Rattle.std.specs.Prelude.{◌≡◌, ℕ, List, Bool, false, ◌||◌, Ok, Err, Result, ◌==◌}
use Rattle.holder.specs.declared.capability.Capability.{Capability}
use Rattle.store.specs.Errors.{store_refusal}
use Rattle.store.specs.Requests.{Ask, Told}
use Rattle.store.specs.State.{State}
use Rattle.store.specs.declared.error.StoreRefusal.{StoreRefusal}
use Rattle.runs.specs.History.{Call, call_with, answer_in}

-- the answer is the refusal with this number
abbrev pub is_refused_with : ℕ → Result Told StoreRefusal → Bool
is_refused_with number (Ok told) = false
is_refused_with number (Err e) = (store_refusal e).number == number

-- refused before any capability is looked at: for sizes, for unsound memory, or for the form of a
-- name or a path
abbrev pub is_early : Result Told StoreRefusal → Bool
is_early answer =
    is_refused_with 1 answer
    || (is_refused_with 2 answer || (is_refused_with 6 answer || is_refused_with 7 answer))

-- refused for the capability: its port, its object or its check
abbrev pub is_turned_away : Result Told StoreRefusal → Bool
is_turned_away answer =
    is_refused_with 10 answer || (is_refused_with 11 answer || is_refused_with 12 answer)

-- the request gets to the check of the port
abbrev pub Reaches : State → Call → Type 0
Reaches s call = is_early (answer_in s call) ≡ false

-- no next request that presents c and gets to the check of the port is refused for it
abbrev pub IsAccepted : State → Capability → Type 0
IsAccepted s c =
    (ask : Ask) (scratch : List ℕ) → Reaches s (call_with c ask scratch)
    → is_turned_away (answer_in s (call_with c ask scratch)) ≡ false
