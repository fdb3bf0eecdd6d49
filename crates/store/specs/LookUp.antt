-- Looking a name up in a directory, and walking a path.
use Rattle.std.specs.Prelude.{ℕ, ◌+◌, List, [], ◌∷◌, Ok, Err, Result}
use Rattle.refusal.specs.Chains.{and_then, refused_as}
use Rattle.holder.specs.Dropping.{within_mask}
use Rattle.holder.specs.declared.capability.Capability.{Capability}
use Rattle.memory.specs.declared.row.Row.{Row}
use Rattle.admission.specs.Admission.{authentic_target}
use Rattle.admission.specs.declared.target.Target.{Target}
use Rattle.rows.specs.Search.{place_of_name}
use Rattle.rows.specs.Seen.{seen_mask}
use Rattle.store.specs.Order.{authentic_object, authorized_object}
use Rattle.store.specs.Rows.{wanted_row, row_at}
use Rattle.store.specs.Rules.{to_see}
use Rattle.store.specs.State.{State}
use Rattle.store.specs.declared.error.StoreRefusal.{StoreRefusal}
use Rattle.store.specs.declared.error.StoreRefusal.TheVariants.{BadPath, RowNotAccepted}

-- what a row shows to these rights: its capability, thinned to the union of the columns that they
-- see
abbrev pub shown_of : State → ℕ → Row → Capability
shown_of s rights row =
    within_mask s.kept.family.function row.capability (seen_mask rights row.masks).bits

-- the same where the row's whole capability is accepted now
abbrev pub shown_now : State → ℕ → Row → ℕ → Result Capability StoreRefusal
shown_now s rights row place =
    and_then (refused_as (λ _. RowNotAccepted place)
    (authentic_target s.kept.family s.kept.port.bytes s.kept.own s.memory row.capability))
    (λ _. Ok (shown_of s rights row))

-- what a name leads to in a directory
abbrev pub lookup_at : State → ℕ → List ℕ → ℕ → Target → Result Capability StoreRefusal
lookup_at s rights bs place target =
    and_then (wanted_row s.memory (place_of_name bs) place target)
    (λ at. shown_now s rights (row_at s.memory at) place)

-- a look-up, whose refusals are told at a place
abbrev pub lookup_by : State → Capability → List ℕ → ℕ → Result Capability StoreRefusal
lookup_by s c bs place =
    and_then (authentic_object s place c) (λ object.
    and_then (authorized_object to_see place c object) (lookup_at s c.rights.bits bs place))

-- a walk is the look-ups of its names in turn, each under the result before, and each told at the
-- name's number
abbrev pub walk_end : State → Capability → List (List ℕ) → ℕ → Result Capability StoreRefusal
walk_end s c [] place = Ok c
walk_end s c (bs ∷ names) place =
    and_then (lookup_by s c bs place) (λ found. walk_end s found names (place + 1))

-- the same from where the first capability is admitted
abbrev pub walk_end_at : State → ℕ → List (List ℕ) → ℕ → Target → Result Capability StoreRefusal
walk_end_at s rights [] place target = Err BadPath
walk_end_at s rights (bs ∷ names) place target =
    and_then (lookup_at s rights bs place target) (λ found. walk_end s found names (place + 1))
