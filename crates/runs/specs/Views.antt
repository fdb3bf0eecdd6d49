-- What a request does to the objects: to one of them what was asked for, and to the others nothing.
use Rattle.std.specs.Prelude.{◌≡◌, ℕ, ◌≤◌, ⊤, Bool, true, false, List, [], ◌∷◌, ◌++◌, length, Some, None, Ok, Option, ◌≢◌, option_map, slice_get}
use Rattle.holder.specs.declared.capability.Capability.{Capability}
use Rattle.secret.specs.declared.secret.Secret.{Secret}
use Rattle.memory.specs.Names.{name_of}
use Rattle.memory.specs.declared.row.Row.{Row}
use Rattle.admission.specs.Objects.{target_at, object_number}
use Rattle.admission.specs.declared.target.Target.{Target}
use Rattle.admission.specs.declared.target.Target.TheVariants.{Itself, File, Directory}
use Rattle.rows.specs.Search.{place_of_name, place_of_object}
use Rattle.rows.specs.Changes.{row_of, rows_without}
use Rattle.store.specs.Rows.{rows_of}
use Rattle.store.specs.Read.{bytes_in}
use Rattle.store.specs.Requests.{row, name, create_file, create_directory, enter, remove, destroy, revoke, Ask, query, update, Told, granted, the_bytes, the_size, the_name, done}
use Rattle.store.specs.State.{State}
use Rattle.runs.specs.History.{Call, answer_in, outcome_in}

-- an object as it is seen from outside, wherever it lies: its secret, and a file's bytes or a
-- directory's rows
pub data View : Type 0 where
  the_store : Secret → View
  a_file : Secret → List ℕ → View
  a_directory : Secret → List Row → View

abbrev pub view_of : State → Target → View
view_of s Itself = the_store s.kept.own
view_of s (File p r) = a_file r.secret (bytes_in s.memory r)
view_of s (Directory p d) = a_directory d.secret (rows_of s.memory p d)

-- the object with a number, if it is live
abbrev pub view_at : State → ℕ → Option View
view_at s o = option_map (view_of s) (target_at s.memory o)

-- the object that a request changes: the one granted, or the one presented that is destroyed
abbrev pub changed_object : Capability → Told → Option ℕ
changed_object c (granted g) = Some (object_number g)
changed_object c done = Some (object_number c)
changed_object c other = None

-- with another secret, all else the same
abbrev pub with_secret : Secret → View → View
with_secret secret (the_store old) = the_store secret
with_secret secret (a_file old bs) = a_file secret bs
with_secret secret (a_directory old rows) = a_directory secret rows

-- a directory with other rows, all else the same
abbrev pub with_changed_rows : (List Row → List Row) → View → View
with_changed_rows change (the_store secret) = the_store secret
with_changed_rows change (a_file secret bs) = a_file secret bs
with_changed_rows change (a_directory secret rows) = a_directory secret (change rows)

-- the rows without the one at a place, if there is such a place
abbrev pub without_place : Option ℕ → List Row → List Row
without_place None rows = rows
without_place (Some p) rows = rows_without p rows

-- what becomes of that object
abbrev pub view_after : Ask → Option View → Option View
view_after (query q) old = old
view_after (update (create_file bs secret)) old = Some (a_file secret bs)
view_after (update (create_directory secret)) old = Some (a_directory secret [])
view_after (update (enter bs entry masks)) old =
    option_map (with_changed_rows (λ rows. rows ++ row_of bs entry masks ∷ [])) old
view_after (update (remove bs)) old =
    option_map (with_changed_rows (λ rows. without_place (place_of_name bs rows) rows)) old
view_after (update destroy) old = None
view_after (update (revoke secret)) old = option_map (with_secret secret) old

-- the requests that bring a new object
abbrev pub is_creation : Ask → Bool
is_creation (query q) = false
is_creation (update (create_file bs secret)) = true
is_creation (update (create_directory secret)) = true
is_creation (update (enter bs entry masks)) = false
is_creation (update (remove bs)) = false
is_creation (update destroy) = false
is_creation (update (revoke secret)) = false

-- the row at a place, if there is one
abbrev pub row_there : Option ℕ → List Row → Option Row
row_there None rows = None
row_there (Some p) rows = slice_get rows p

-- the row of a directory that a request asks the name of: by its number, or the last one entered
-- with an object
abbrev pub row_asked : Ask → List Row → Option Row
row_asked (query (row n)) rows = slice_get rows n
row_asked (query (name o)) rows = row_there (place_of_object o rows) rows
row_asked other rows = None

-- the name is that of a row asked for, of the directory presented
pub record IsNameAsked (s : State) (c : Capability) (ask : Ask) (bs : List ℕ) : Type 0 where
  pub secret : Secret
  pub rows : List Row
  pub asked : Row
  pub directory : view_at s (object_number c) ≡ Some (a_directory secret rows)
  pub found : row_asked ask rows ≡ Some asked
  pub same : bs ≡ name_of asked

-- an answer is true: bytes are those of the file presented, and a size is their number
--
-- A name is that of the row asked for, in the directory presented.
abbrev pub TellsTruth : State → Capability → Ask → Told → Type 0
TellsTruth s c ask (the_bytes bs) =
    (secret : Secret) × (view_at s (object_number c) ≡ Some (a_file secret bs))
TellsTruth s c ask (the_size n) =
    (secret : Secret) × ((bs : List ℕ)
    × ((view_at s (object_number c) ≡ Some (a_file secret bs)) × (n ≡ length bs)))
TellsTruth s c ask (the_name bs) = IsNameAsked s c ask bs
TellsTruth s c ask other = ⊤

-- what a request that is not refused does to the objects of a store with at most 256 files and 64
-- directories
pub record Effect (s : State) (call : Call) (told : Told) : Type 0 where
  -- the object that it changes becomes what was asked for
  pub there : (o : ℕ) → changed_object call.presented told ≡ Some o
      → view_at (outcome_in s call).after o ≡ view_after call.ask (view_at s o)
  -- every other object stays as it was
  pub elsewhere : (o : ℕ) → (changed_object call.presented told ≢ Some o)
      → view_at (outcome_in s call).after o ≡ view_at s o
  -- a created object has a number that no live object had
  pub new : is_creation call.ask ≡ true → (o : ℕ) → changed_object call.presented told ≡ Some o
      → view_at s o ≡ None
  pub truth : TellsTruth s call.presented call.ask told

abbrev pub EffectOf : State → Call → Type 0
EffectOf s call =
    s.kept.files ≤ 256 → s.kept.directories ≤ 64 → (told : Told) → answer_in s call ≡ Ok told
    → Effect s call told
