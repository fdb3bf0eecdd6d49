-- The law of runs: what holds of a store from its opening on, whatever is asked and whatever is
-- refused.
use Rattle.std.specs.Prelude.{◌≡◌, ℕ, ◌<◌, true, List, [], Some, Ok}
use Rattle.family.specs.Commuting.{Family}
use Rattle.family.specs.Rights.{has_right}
use Rattle.holder.specs.Dropping.{check_number, thin_to}
use Rattle.holder.specs.Laws.{IsGenuine}
use Rattle.holder.specs.Layout.{capability_bytes}
use Rattle.holder.specs.declared.capability.Capability.{Capability}
use Rattle.admission.specs.Objects.{object_number}
use Rattle.store.specs.Requests.{look_up, walk, Ask, query, Told, found}
use Rattle.store.specs.State.{State}
use Rattle.runs.specs.Acceptance.{Reaches, is_turned_away, IsAccepted}
use Rattle.runs.specs.Descent.{IsDescendant}
use Rattle.runs.specs.Grants.{Grant, IsGranted, Stands, standing_grant}
use Rattle.runs.specs.History.{Call, call_with, state_after, history, answer_in, outcome_in}

-- the rights of c are among those of d
abbrev pub FewerRights : Capability → Capability → Type 0
FewerRights c d =
    (k : ℕ) → k < 8 → has_right c.rights.bits k ≡ true → has_right d.rights.bits k ≡ true

-- acceptance shows: every request that gets to the check of the port says the same of a capability,
-- and there is such a request
pub record AcceptanceShows (s : State) : Type 0 where
  pub one_verdict : (c : Capability) (a b : Ask) (x y : List ℕ) → Reaches s (call_with c a x)
      → Reaches s (call_with c b y)
      → is_turned_away (answer_in s (call_with c a x))
      ≡ is_turned_away (answer_in s (call_with c b y))
  pub some_verdict : (c : Capability) → (a : Ask) × Reaches s (call_with c a [])

-- equal rights, equal bytes: descendants of one grant with equal rights are the same sixteen bytes,
-- and accepted while the grant stands
pub record EqualBytes (F : Family) (first : Grant) (start : State) (calls : List Call) : Type 0
  where
    pub same_sixteen_bytes : (g : Grant) → IsGranted first (history start calls) g
        → (c d : Capability)
        → IsDescendant F (history start calls) g.capability c
        → IsDescendant F (history start calls) g.capability d
        → c.rights.bits ≡ d.rights.bits → capability_bytes c ≡ capability_bytes d
    pub accepted_while_standing : (g : Grant) → Stands first (history start calls) g
        → (c : Capability)
        → IsDescendant F (history start calls) g.capability c
        → IsAccepted (state_after start calls) c

-- accepted exactly when: a capability of this port is accepted if and only if its object stands
-- and its check is the current secret thinned by the missing rights; beside one check at most one
-- rights byte is accepted for an object
pub record AcceptedExactly (f : ℕ → ℕ → ℕ) (first : Grant) (start : State)
    (calls : List Call) : Type 0 where
  pub only_when : (c : Capability) → c.port.bytes ≡ start.kept.port.bytes
      → IsAccepted (state_after start calls) c
      → (g : Grant) × ((standing_grant first (history start calls) (object_number c) ≡ Some g)
      × IsGenuine f g.secret.value c)
  pub when : (c : Capability) → c.port.bytes ≡ start.kept.port.bytes
      → (g : Grant) → standing_grant first (history start calls) (object_number c) ≡ Some g
      → IsGenuine f g.secret.value c → IsAccepted (state_after start calls) c
  pub one_rights_byte : (c d : Capability) → IsAccepted (state_after start calls) c
      → IsAccepted (state_after start calls) d
      → object_number c ≡ object_number d → check_number c ≡ check_number d → c.rights.bits < 256
      → d.rights.bits < 256 → c.rights.bits ≡ d.rights.bits

-- both found a capability, and the second thinned to the rights of the first is the first
pub record FoundAlike (F : Family) (told more : Told) : Type 0 where
  pub first : Capability
  pub second : Capability
  pub told_first : told ≡ found first
  pub told_second : more ≡ found second
  pub thins : thin_to F second first.rights.bits ≡ Ok first

-- the same answer, but that what is found by a look-up or a walk may have more rights
abbrev pub AreAlike : Family → Ask → Told → Told → Type 0
AreAlike F (query (look_up bs)) told more = FoundAlike F told more
AreAlike F (query (walk path)) told more = FoundAlike F told more
AreAlike F other told more = more ≡ told

-- what is answered under a capability d to a request that is answered so under c: alike, and with
-- the same left behind
pub record SameAnswer (F : Family) (s : State) (c d : Capability) (ask : Ask) (x : List ℕ)
    (told : Told) : Type 0 where
  pub more : Told
  pub answers : answer_in s (call_with d ask x) ≡ Ok more
  pub alike : AreAlike F ask told more
  pub after : (outcome_in s (call_with d ask x)).after ≡ (outcome_in s (call_with c ask x)).after
  pub scratch : (outcome_in s (call_with d ask x)).scratch
      ≡ (outcome_in s (call_with c ask x)).scratch

-- more rights, same answer: what is not refused under c has the same answer and leaves the same
-- behind under an accepted d with every right of c
abbrev pub MoreRights : Family → State → Type 0
MoreRights F s =
    (c d : Capability) → IsAccepted s c → IsAccepted s d → object_number c ≡ object_number d
    → FewerRights c d
    → (ask : Ask) (scratch : List ℕ) (told : Told) → answer_in s (call_with c ask scratch) ≡ Ok told
    → SameAnswer F s c d ask scratch told

-- over every list of requests since the opening, which granted `first` and left `start`
pub record LawOfRuns (F : Family) (first : Grant) (start : State) : Type 0 where
  pub acceptance_shows : (calls : List Call) → AcceptanceShows (state_after start calls)
  pub equal_rights_equal_bytes : (calls : List Call) → EqualBytes F first start calls
  pub accepted_exactly_when : (calls : List Call) → AcceptedExactly F.function first start calls
  pub more_rights_same_answer : (calls : List Call) → MoreRights F (state_after start calls)
