-- Grants: which there were, and which of them stand.
use Rattle.std.specs.Prelude.{◌≡◌, ℕ, Bool, if◌then◌else◌, ◌⊎◌, List, [], ◌∷◌, Some, None, Option, ◌==◌, nat_eq}
use Rattle.holder.specs.declared.capability.Capability.{Capability}
use Rattle.secret.specs.declared.secret.Secret.{Secret}
use Rattle.admission.specs.Objects.{object_number}
use Rattle.store.specs.Requests.{create_file, create_directory, enter, remove, destroy, revoke, Ask, query, update, Told, granted}
use Rattle.runs.specs.History.{Event, on_answer}

-- the result of an open, create or revoke that was not refused, and the secret brought for it
pub record Grant : Type 0 where
  pub capability : Capability
  pub secret : Secret

-- the number of the object that is granted
abbrev pub object_granted : Grant → ℕ
object_granted g = object_number g.capability

-- what an event does to grants: it is one, it ends those of a set of objects, or neither
pub data Consequence : Type 0 where
  grants : Grant → Consequence
  ends : (ℕ → Bool) → Consequence
  neither : Consequence

-- a request that brings a secret grants what it tells
abbrev pub grant_told : Secret → Told → Consequence
grant_told secret (granted c) = grants (record { capability = c; secret = secret })
grant_told secret other = neither

-- what an unrefused request does to grants; a query does nothing
abbrev pub consequence : Capability → Ask → Told → Consequence
consequence c (query q) told = neither
consequence c (update (create_file bs secret)) told = grant_told secret told
consequence c (update (create_directory secret)) told = grant_told secret told
consequence c (update (enter bs entry masks)) told = neither
consequence c (update (remove bs)) told = neither
consequence c (update destroy) told = ends (λ o. nat_eq o (object_number c))
consequence c (update (revoke secret)) told = grant_told secret told

-- a refusal is of no consequence
abbrev pub consequence_of : Event → Consequence
consequence_of e = on_answer neither (consequence e.call.presented e.call.ask) e.answer

-- g was granted: by the opening, or by an event since
abbrev pub IsGranted : Grant → List Event → Grant → Type 0
IsGranted first [] g = g ≡ first
IsGranted first (e ∷ es) g = (consequence_of e ≡ grants g) ⊎ IsGranted first es g

-- the grant that stands for an object, once a consequence came upon the one that stood
abbrev pub grant_after : Consequence → ℕ → Option Grant → Option Grant
grant_after (grants g) o old = if o == object_granted g then Some g else old
grant_after (ends objects) o old = if objects o then None else old
grant_after neither o old = old

-- the grant that stands for an object: the last one of its number, unless the object was ended
-- since
abbrev pub standing_grant : Grant → List Event → ℕ → Option Grant
standing_grant first [] o = grant_after (grants first) o None
standing_grant first (e ∷ es) o = grant_after (consequence_of e) o (standing_grant first es o)

-- g stands
abbrev pub Stands : Grant → List Event → Grant → Type 0
Stands first es g = standing_grant first es (object_granted g) ≡ Some g
