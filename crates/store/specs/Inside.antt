-- Definitions for private functions, which no public contract cites.
use Rattle.std.specs.Prelude.{ℕ, ◌+◌, ◌*◌, ◌^◌, ◌<◌, ◌≤◌, List, length, Option, Result}
use Rattle.refusal.specs.Chains.{unless, and_then, refused_as}
use Rattle.holder.specs.declared.capability.Capability.{Capability}
use Rattle.memory.specs.Soundness.{Content}
use Rattle.memory.specs.declared.row.Row.{Row}
use Rattle.rows.specs.Search.{place_of_name, place_of_object}
use Rattle.admission.specs.Admission.{admitted_target}
use Rattle.admission.specs.declared.need.Need.{Need}
use Rattle.admission.specs.declared.target.Target.{Target}
use Rattle.admission.specs.declared.target.Target.TheVariants.{Itself, File, Directory}
use Rattle.store.specs.Kept.{number_of}
use Rattle.store.specs.Order.{is_usable}
use Rattle.store.specs.Outcomes.{Change}
use Rattle.store.specs.Requests.{Update, update}
use Rattle.store.specs.Rows.{nth_place}
use Rattle.store.specs.Rules.{rule_of}
use Rattle.store.specs.Serve.{change_at}
use Rattle.store.specs.Sizes.{sizes_agree}
use Rattle.store.specs.State.{State, is_sound_for}
use Rattle.store.specs.declared.create_file.Spot.{Spot}
use Rattle.store.specs.declared.row.DirectoryAt.{DirectoryAt}
use Rattle.store.specs.declared.row.RowAt.{RowAt}
use Rattle.store.specs.declared.row.Wanted.{Wanted}
use Rattle.store.specs.declared.row.Wanted.TheVariants.{Nth, WithObject, Named}
use Rattle.store.specs.declared.rule.Rule.{Rule}
use Rattle.store.specs.declared.error.StoreRefusal.{StoreRefusal}
use Rattle.store.specs.declared.error.StoreRefusal.TheVariants.{WrongSizes, UnsoundMemory, UnfitSecret, Denied}

-- memory is in order, and then the form of what is brought is right
abbrev pub validation : State → Result (Unit {0}) StoreRefusal → Result (Unit {0}) StoreRefusal
validation s form = unless (sizes_agree s) WrongSizes (unless (is_sound_for s) UnsoundMemory form)

-- the object that a capability is admitted to; a denial is told at a place
abbrev pub admitted_at : State → Need → Capability → ℕ → Result Target StoreRefusal
admitted_at s need c place =
    refused_as (λ d. Denied d place)
    (admitted_target s.kept.family s.kept.port.bytes s.kept.own s.memory need c)

-- the object by the checks of every request but that of a secret
abbrev pub admitted_by : State → Rule → Capability → Result Target StoreRefusal
admitted_by s rule c = and_then (validation s rule.form) (λ _. admitted_at s rule.need c rule.place)

-- the bytes of a file lie in the area
abbrev pub IsWithinArea : Content → Target → Type 0
IsWithinArea m Itself = Unit {0}
IsWithinArea m (File p r) = r.start + r.length ≤ length m.area
IsWithinArea m (Directory p d) = Unit {0}

-- a directory counts at most sixteen rows, and all sixteen lie among the rows
pub record HasRows (m : Content) (d : DirectoryAt) : Type 0 where
  pub few : d.found.count ≤ 16
  pub within : 16 * d.place + 16 ≤ length m.rows
  pub there : d.place < length m.directories

abbrev pub HasItsRows : Content → Target → Type 0
HasItsRows m Itself = Unit {0}
HasItsRows m (File p r) = Unit {0}
HasItsRows m (Directory p d) = HasRows m (record { place = p; found = d })

-- an object that is admitted has a number of 24 bits; a file lies in the area, and a directory's
-- rows lie among the rows
pub record IsAdmitted (s : State) (target : Target) : Type 0 where
  pub narrow : s.kept.files ≤ 256 → s.kept.directories ≤ 64 → number_of s.kept target < 2 ^ 24
  pub within : IsWithinArea s.memory target
  pub listed : HasItsRows s.memory target

-- such a row is counted
pub record IsCounted (m : Content) (at : RowAt) : Type 0 where
  pub rows : HasRows m at.directory
  pub counted : at.row < at.directory.found.count

-- the place of the row that is wanted: by its number, by the object that it was entered with last,
-- or by its name
abbrev pub wanted_place : Wanted → List Row → Option ℕ
wanted_place (Nth n) = nth_place n
wanted_place (WithObject object) = place_of_object object.value
wanted_place (Named bs) = place_of_name bs.now

-- a new file's place is one of the table, and its bytes lie in the area
pub record IsSpotFor (s : State) (len : ℕ) (spot : Spot) : Type 0 where
  pub place : spot.place < length s.memory.files
  pub part : spot.start + len ≤ length s.memory.area

-- such a directory has room for a row more
pub record HasRoom (m : Content) (d : DirectoryAt) : Type 0 where
  pub rows : HasRows m d
  pub room : d.found.count < 16

-- an update as the code carries it out, once a scratch that it brings has its size
abbrev pub attempt_of : State → Capability → Update → Result Change StoreRefusal
attempt_of s c u =
    and_then (admitted_by s (rule_of (update u)) c) (λ target.
    unless (is_usable s target (rule_of (update u)).secret) UnfitSecret (change_at s u target))
