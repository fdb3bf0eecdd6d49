-- Refusals that come after the judgement of the capability presented.
use Rattle.std.proofs.Common.{◌≡◌, ℕ, false, eqb, nat_lt, List, length, is_none, IfErr, Ok, Err, Option, Result, refl}
use Rattle.refusal.specs.Chains.{unless, given, refused_as}
use Rattle.holder.specs.declared.capability.Capability.{Capability}
use Rattle.table.specs.Table.{claimed_place}
use Rattle.memory.specs.Placement.{lowest_start}
use Rattle.memory.specs.Soundness.{Content}
use Rattle.memory.specs.declared.row.Row.{Row}
use Rattle.admission.specs.Admission.{authentic_target, authorized_target}
use Rattle.admission.specs.Needs.{fits_kinds, have_common_right}
use Rattle.admission.specs.declared.error.Denial.{Denial}
use Rattle.admission.specs.declared.error.Denial.TheVariants.{WrongKind, RightMissing}
use Rattle.admission.specs.declared.target.Target.{Target}
use Rattle.admission.specs.declared.target.Target.TheVariants.{Itself, File, Directory}
use Rattle.admission.specs.declared.need.Need.{Need}
use Rattle.rows.specs.Search.{place_of_name}
use Rattle.store.specs.CreateFile.{spot_for}
use Rattle.store.specs.CreateDirectory.{place_for}
use Rattle.store.specs.Destroy.{destructible_object}
use Rattle.store.specs.Rows.{directory_in, rows_in, wanted_row, row_at}
use Rattle.store.specs.Enter.{entry_form, room_in}
use Rattle.store.specs.LookUp.{lookup_at}
use Rattle.store.specs.Read.{file_in}
use Rattle.store.specs.declared.create_file.Spot.{Spot}
use Rattle.store.specs.declared.error.StoreRefusal.{StoreRefusal}
use Rattle.store.specs.declared.error.StoreRefusal.TheVariants.{UnfitSecret, Denied, NoFreeRecord, NoStart, EntryNotAccepted, NameTaken, DirectoryFull, NoSuchRow, RowNotAccepted, RowsLeft}
use Rattle.runs.specs.Acceptance.{is_early, is_turned_away}
use Rattle.refusal.proofs.ChainFacts.{refused_unless, refused_given, refused_then, refused_told}
use Rattle.store.specs.State.{State}

-- a refusal that comes after the judgement of the capability
pub record Late (e : StoreRefusal) : Type 0 where
  pub not_early : is_early (Err e) ≡ false
  pub not_for_it : is_turned_away (Err e) ≡ false

pub late_kind : (place : ℕ) → Late (Denied WrongKind place)
late_kind place = record { not_early = refl; not_for_it = refl }

pub late_right : (place : ℕ) → Late (Denied RightMissing place)
late_right place = record { not_early = refl; not_for_it = refl }

pub late_secret : Late UnfitSecret
late_secret = record { not_early = refl; not_for_it = refl }

pub late_full : Late NoFreeRecord
late_full = record { not_early = refl; not_for_it = refl }

pub late_start : Late NoStart
late_start = record { not_early = refl; not_for_it = refl }

pub late_entry : Late EntryNotAccepted
late_entry = record { not_early = refl; not_for_it = refl }

pub late_taken : Late NameTaken
late_taken = record { not_early = refl; not_for_it = refl }

pub late_crowded : Late DirectoryFull
late_crowded = record { not_early = refl; not_for_it = refl }

pub late_row : (place : ℕ) → Late (NoSuchRow place)
late_row place = record { not_early = refl; not_for_it = refl }

pub late_rows : Late RowsLeft
late_rows = record { not_early = refl; not_for_it = refl }

-- what holds of every refusal holds of the one there is
pub each_err : {A E : Type 0} (P : E → Type 0) → ((e : E) → P e) → (r : Result A E) → IfErr r P
each_err P all (Ok a) = tt
each_err P all (Err e) = all e

pub file_late : (t : Target) → IfErr (file_in t) Late
file_late Itself = late_kind 0
file_late (File p r) = tt
file_late (Directory p d) = late_kind 0

pub destructible_late : (t : Target) → IfErr (destructible_object t) Late
destructible_late Itself = late_kind 0
destructible_late (File p r) = tt
destructible_late (Directory p d) =
    refused_unless Late (eqb d.count 0) RowsLeft (Ok (Directory p d)) late_rows tt

pub spot_late : (s : State) (len : ℕ) → IfErr (spot_for s len) Late
spot_late s len =
    let start : ℕ → Result Spot StoreRefusal =
    λ p. given (lowest_start s.memory.files (length s.memory.area) len) NoStart
    (λ start. Ok (record { place = p; start = start })) in
    refused_given Late (claimed_place (λ r. r.live) s.memory.files s.kept.file_next) NoFreeRecord
    start late_full (λ p.
    refused_given Late (lowest_start s.memory.files (length s.memory.area) len) NoStart
    (λ start. Ok (record { place = p; start = start })) late_start (λ start. tt))

pub place_late : (s : State) → IfErr (place_for s) Late
place_late s =
    refused_given Late (claimed_place (λ d. d.live) s.memory.directories s.kept.directory_next)
    NoFreeRecord Ok late_full (λ p. tt)

pub directory_late : (t : Target) → IfErr (directory_in t) Late
directory_late Itself = late_kind 0
directory_late (File p r) = late_kind 0
directory_late (Directory p d) = tt

pub row_in_late : (m : Content) (wanted : List Row → Option ℕ) (place : ℕ) (t : Target)
    → IfErr (wanted_row m wanted place t) Late
row_in_late m wanted place t =
    refused_then Late (directory_in t) _ (directory_late t)
    (λ d. refused_given Late (wanted (rows_in m d)) (NoSuchRow place) _ (late_row place)
    (λ p. tt))

pub room_late : (s : State) (bs : List ℕ) (entry : Capability) (t : Target)
    → IfErr (room_in s bs entry t) Late
room_late s bs entry t =
    refused_then Late (directory_in t) _ (directory_late t) (λ d.
    refused_then Late (entry_form s bs entry d) (λ _. Ok d)
    (refused_then Late (refused_as (λ _. EntryNotAccepted)
    (authentic_target s.kept.family s.kept.port.bytes s.kept.own s.memory entry)) _
    (refused_told Late (λ _. EntryNotAccepted)
    (authentic_target s.kept.family s.kept.port.bytes s.kept.own s.memory entry)
    (each_err _ (λ _. late_entry) _)) (λ _.
    refused_unless Late (is_none (place_of_name bs (rows_in s.memory d))) NameTaken _ late_taken
    (refused_unless Late (nat_lt d.found.count 16) DirectoryFull (Ok tt) late_crowded tt)))
    (λ _. tt))

-- a row's capability that is not accepted
late_stale : (place : ℕ) → Late (RowNotAccepted place)
late_stale place = record { not_early = refl; not_for_it = refl }

-- the judgement of a capability in a state
abbrev pub judged_in : State → Capability → Result Target Denial
judged_in s c = authentic_target s.kept.family s.kept.port.bytes s.kept.own s.memory c

-- what is refused in a directory that is looked into
pub looked_late : (s : State) (rights : ℕ) (bs : List ℕ) (place : ℕ) (t : Target)
    → IfErr (lookup_at s rights bs place t) Late
looked_late s rights bs place t =
    refused_then Late (wanted_row s.memory (place_of_name bs) place t) _
    (row_in_late s.memory (place_of_name bs) place t) (λ at.
    refused_then Late (refused_as (λ _. RowNotAccepted place)
    (judged_in s (row_at s.memory at).capability)) _
    (refused_told Late (λ _. RowNotAccepted place) (judged_in s (row_at s.memory at).capability)
    (each_err _ (λ _. late_stale place) _)) (λ _. tt))

pub permitted_late : (need : Need) (place : ℕ) (t : Target) (rights : ℕ)
    → IfErr (authorized_target need t rights) (λ d. Late (Denied d place))
permitted_late need place t rights =
    let right : Result Target Denial =
    unless (have_common_right rights need.rights) RightMissing (Ok t) in
    refused_unless (λ d. Late (Denied d place)) (fits_kinds need.kinds t) WrongKind right
    (late_kind place)
    (refused_unless (λ d. Late (Denied d place)) (have_common_right rights need.rights) RightMissing
    (Ok t) (late_right place) tt)
