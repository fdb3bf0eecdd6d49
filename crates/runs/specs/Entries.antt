-- What was entered into directories, and where paths led.
use Rattle.std.specs.Prelude.{◌≡◌, ℕ, Bool, if◌then◌else◌, ◌&&◌, ◌⊎◌, List, [], ◌∷◌, Some, None, Option, ◌==◌}
use Rattle.std.specs.Option.{option_and_then}
use Rattle.holder.specs.declared.capability.Capability.{Capability}
use Rattle.memory.specs.Names.{is_same_name}
use Rattle.admission.specs.Objects.{object_number}
use Rattle.rows.specs.Paths.{names_in}
use Rattle.store.specs.Requests.{look_up, walk, create_file, create_directory, enter, remove, destroy, revoke, Ask, query, update}
use Rattle.runs.specs.History.{Event, on_answer}

-- the capability that an enter brought, where it is the one of that name and directory; else the
-- one entered before
abbrev pub entry_after : Ask → Bool → List ℕ → Option Capability → Option Capability
entry_after (query q) here bs old = old
entry_after (update (create_file xs secret)) here bs old = old
entry_after (update (create_directory secret)) here bs old = old
entry_after (update (enter bs' entry masks)) here bs old =
    if here && is_same_name bs' bs then Some entry else old
entry_after (update (remove xs)) here bs old = old
entry_after (update destroy) here bs old = old
entry_after (update (revoke secret)) here bs old = old

-- the capability that an unrefused request entered under a name into a directory, or the one
-- entered before
abbrev pub entry_from : Event → ℕ → List ℕ → Option Capability → Option Capability
entry_from e o bs old =
    on_answer old (λ _. entry_after e.call.ask (object_number e.call.presented == o) bs old)
    e.answer

-- the capability that the last unrefused enter of a name into a directory brought
abbrev pub last_entered : List Event → ℕ → List ℕ → Option Capability
last_entered [] o bs = None
last_entered (e ∷ es) o bs = entry_from e o bs (last_entered es o bs)

-- the names that a request looks up, in turn
abbrev pub names_asked : Ask → List (List ℕ)
names_asked (query (look_up bs)) = bs ∷ []
names_asked (query (walk path)) = names_in path
names_asked other = []

-- where the names of a path lead from a capability: each to the capability last entered under it
-- into the directory reached before
abbrev pub path_end : List Event → Capability → List (List ℕ) → Option Capability
path_end es c [] = Some c
path_end es c (bs ∷ names) =
    option_and_then (λ entry. path_end es entry names) (last_entered es (object_number c) bs)

-- an event that happened, and all that was before it
abbrev pub HasHappened : List Event → Event → List Event → Type 0
HasHappened [] e before = ⊥
HasHappened (x ∷ es) e before = ((x ≡ e) × (es ≡ before)) ⊎ HasHappened es e before
