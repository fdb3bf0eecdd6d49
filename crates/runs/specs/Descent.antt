-- Descendants of a grant: what its holders can make of it. A copy is an equal value.
use Rattle.std.specs.Prelude.{◌≡◌, ℕ, ◌<◌, List, Some, Ok}
use Rattle.family.specs.Commuting.{Family}
use Rattle.holder.specs.Dropping.{drop_right, thin_to}
use Rattle.holder.specs.declared.capability.Capability.{Capability}
use Rattle.store.specs.Requests.{found}
use Rattle.runs.specs.Entries.{HasHappened, path_end, names_asked}
use Rattle.runs.specs.History.{Event}

-- in a family with modulus n and functions f, along what happened
pub data IsDescendant (F : Family) (es : List Event) (granted : Capability) : Capability
    → Type 0 where
  itself : IsDescendant F es granted granted
  by_dropping : (c d : Capability) (k : ℕ) → IsDescendant F es granted c → drop_right F c k ≡ Ok d
      → IsDescendant F es granted d
  by_thinning : (c d : Capability) (mask : ℕ) → mask < 256 → IsDescendant F es granted c
      → thin_to F c mask ≡ Ok d → IsDescendant F es granted d
  -- what an unrefused look-up or walk found, where the last unrefused enter of that name into that
  -- directory, name by name, brought a descendant
  by_looking : (e : Event) (before : List Event) (brought d : Capability) → HasHappened es e before
      → e.answer ≡ Ok (found d)
      → path_end before e.call.presented (names_asked e.call.ask) ≡ Some brought
      → IsDescendant F es granted brought → IsDescendant F es granted d
