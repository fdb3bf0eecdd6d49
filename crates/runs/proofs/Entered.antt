-- What a request comes to that is not refused, case by case.
use Rattle.std.proofs.Common.{◌≡◌, ℕ, true, false, eqb, nat_lt, List, length, is_none, Some, Ok, Option, sym, refl, ap, ◌∙◌, subst, ◌<◌, Result}
use Rattle.std.specs.List.{AllByRecursion}
use Rattle.std.proofs.lemmas.Bool.{and_parts}
use Rattle.refusal.specs.Chains.{and_then, refused_as}
use Rattle.refusal.proofs.ChainFacts.{same_ok, never_ok, unless_ok, and_then_ok, given_ok, refused_as_ok}
use Rattle.holder.specs.declared.capability.Capability.{Capability}
use Rattle.secret.specs.declared.secret.Secret.{Secret}
use Rattle.table.specs.Table.{is_live_at, claimed_place}
use Rattle.table.proofs.TableFacts.{is_claimed}
use Rattle.memory.specs.Parts.{IsClearOf}
use Rattle.memory.specs.Placement.{lowest_start}
use Rattle.memory.specs.Names.{is_lawful_name}
use Rattle.memory.specs.declared.row.Masks.{Masks}
use Rattle.memory.specs.declared.row.Row.{Row}
use Rattle.memory.specs.declared.directory_record.DirectoryRecord.{DirectoryRecord}
use Rattle.memory.specs.declared.file_record.FileRecord.{FileRecord}
use Rattle.admission.specs.Admission.{authentic_target}
use Rattle.admission.specs.Objects.{target_at, object_number}
use Rattle.admission.specs.declared.target.Target.{Target}
use Rattle.admission.specs.declared.target.Target.TheVariants.{Itself, File, Directory}
use Rattle.store.specs.Outcomes.{Change}
use Rattle.store.specs.Order.{is_fit_for, IsInOrder, is_sized, is_usable, result_of}
use Rattle.store.specs.CreateFile.{spot_for, new_file}
use Rattle.store.specs.Inside.{IsSpotFor}
use Rattle.store.specs.CreateDirectory.{place_for, new_directory}
use Rattle.store.specs.Destroy.{destructible_object, destruction}
use Rattle.rows.specs.Search.{place_of_name, place_of_object}
use Rattle.rows.specs.Changes.{row_of}
use Rattle.store.specs.Rows.{nth_place, wanted_row, name_at, rows_of}
use Rattle.store.specs.Enter.{entry_form, room_in, with_row}
use Rattle.store.specs.Remove.{without_row}
use Rattle.rows.specs.Paths.{names_in}
use Rattle.store.specs.LookUp.{lookup_at, walk_end_at}
use Rattle.store.specs.Read.{bytes_in, file_in}
use Rattle.store.specs.Requests.{Query, read, size, look_up, walk, row, name, Update, create_file, create_directory, enter, remove, destroy, revoke, query, update, Told, the_bytes, the_size, found, the_name}
use Rattle.store.specs.Rules.{rule_of}
use Rattle.store.specs.Revoke.{revocation}
use Rattle.store.specs.Serve.{told_at, change_at, reply_to}
use Rattle.store.specs.Sizes.{sizes_agree}
use Rattle.store.specs.State.{State}
use Rattle.store.specs.declared.rule.Rule.{Rule}
use Rattle.store.specs.declared.create_file.Spot.{Spot}
use Rattle.store.specs.declared.row.DirectoryAt.{DirectoryAt}
use Rattle.store.specs.declared.row.RowAt.{RowAt}
use Rattle.store.specs.declared.error.StoreRefusal.{StoreRefusal}
use Rattle.store.specs.declared.error.StoreRefusal.TheVariants.{BadName, NoFreeRecord, NoStart, EntryNotAccepted, NameTaken, DirectoryFull, NoSuchRow, RowsLeft}
use Rattle.store.proofs.Apart.{placed_allowed}
use Rattle.store.proofs.Admitting.{executed_located}
use Rattle.store.proofs.OrderFacts.{executed, sized_agree}

-- an update as it is decided on
abbrev pub decision : State → Capability → Update → List ℕ → Result Change StoreRefusal
decision s c u scratch =
    result_of s (is_sized s (rule_of (update u)) scratch) (rule_of (update u)) c (change_at s u)

-- memory is in order, the capability's object is live, and there the change is made
pub record Entered (s : State) (c : Capability) (u : Update) (change : Change) : Type 0 where
  pub order : IsInOrder s
  pub target : Target
  pub object : target_at s.memory (object_number c) ≡ Some target
  pub formed : (x : Unit {0}) × ((rule_of (update u)).form ≡ Ok x)
  pub usable : is_usable s target (rule_of (update u)).secret ≡ true
  pub made : change_at s u target ≡ Ok change

-- the same of a query and what is told
pub record Queried (s : State) (c : Capability) (q : Query) (told : Told) : Type 0 where
  pub order : IsInOrder s
  pub target : Target
  pub object : target_at s.memory (object_number c) ≡ Some target
  pub made : told_at s c.rights.bits q target ≡ Ok told

pub entered_as : (s : State) (c : Capability) (u : Update) (scratch : List ℕ) (change : Change)
    → decision s c u scratch ≡ Ok change → Entered s c u change
entered_as s c u scratch change e =
    let rule : Rule = rule_of (update u) in
    let x = executed s (is_sized s rule scratch) rule c (change_at s u) change e in
    record {
      order = record { sizes = sized_agree s rule scratch x.fits; sound = x.sound };
      target = x.target;
      object = executed_located s c (is_sized s rule scratch) rule (change_at s u) change x;
      formed = (x.unit, x.form);
      usable = x.usable;
      made = x.made;
    }

pub queried_as : (s : State) (c : Capability) (q : Query) (told : Told) → reply_to s c q ≡ Ok told
    → Queried s c q told
queried_as s c q told e =
    let rule : Rule = rule_of (query q) in
    let x = executed s (sizes_agree s) rule c (told_at s c.rights.bits q) told e in
    record {
      order = record { sizes = x.fits; sound = x.sound };
      target = x.target;
      object = executed_located s c (sizes_agree s) rule (told_at s c.rights.bits q) told x;
      made = x.made;
    }

module _ (s : State) where
  -- the spot of a new file is right, its place is free, and it is clear of the live files
  abbrev pub FreeSpot : ℕ → Spot → Type 0
  FreeSpot len spot =
      IsSpotFor s len spot × (is_live_at (λ r. r.live) s.memory.files spot.place ≡ false)
      × AllByRecursion (IsClearOf spot.start len) s.memory.files

  spot_fits : (len : ℕ) (spot : Spot) → spot_for s len ≡ Ok spot → FreeSpot len spot
  spot_fits len spot e =
      let place =
      given_ok (claimed_place (λ r. r.live) s.memory.files s.kept.file_next) NoFreeRecord _ spot
      e in
      let start =
      given_ok (lowest_start s.memory.files (length s.memory.area) len) NoStart _ spot
      place.1.1 in
      let same = same_ok start.1.1 in
      let first =
      is_claimed (λ r. r.live) s.memory.files s.kept.file_next (Some spot.place)
      (ap (λ s. Some s.place) (sym same) ∙ sym place.1.0) in
      let allowed =
      placed_allowed s.memory.files (length s.memory.area) len spot.start
      (start.1.0 ∙ ap (λ s. Some s.start) same) in
      (record { place = first.within; part = allowed.0 }, first.free, allowed.1)

  -- the place of a new directory is there, and free
  abbrev pub FreePlace : ℕ → Type 0
  FreePlace p =
      (p < length s.memory.directories) × (is_live_at (λ d. d.live) s.memory.directories p ≡ false)

  place_fits : (p : ℕ) → place_for s ≡ Ok p → FreePlace p
  place_fits p e =
      let place =
      given_ok (claimed_place (λ d. d.live) s.memory.directories s.kept.directory_next)
      NoFreeRecord Ok p e in
      let first =
      is_claimed (λ d. d.live) s.memory.directories s.kept.directory_next (Some p)
      (ap Some (sym (same_ok place.1.1)) ∙ sym place.1.0) in
      (first.within, first.free)

  -- a directory at its place, and a row of it
  abbrev pub directory_at : ℕ → DirectoryRecord → DirectoryAt
  directory_at p d = record { place = p; found = d }

  abbrev pub at_place : ℕ → DirectoryRecord → ℕ → RowAt
  at_place p d i = record { directory = directory_at p d; row = i }

  -- what holds of an entry that is not refused: its name is lawful and new, its capability is
  -- accepted, and there is room
  pub record Enterable (bs : List ℕ) (entry : Capability) (p : ℕ) (d : DirectoryRecord) : Type 0
    where
      pub lawful : is_lawful_name bs ≡ true
      pub target : Target
      pub accepted : authentic_target s.kept.family s.kept.port.bytes s.kept.own s.memory entry
          ≡ Ok target
      pub new : is_none (place_of_name bs (rows_of s.memory p d)) ≡ true
      pub room : nat_lt d.count 16 ≡ true

  pub row_in_at : (wanted : List Row → Option ℕ) (place : ℕ) (t : Target) (at : RowAt)
      → wanted_row s.memory wanted place t ≡ Ok at
      → (p : ℕ) × ((d : DirectoryRecord)
      × ((i : ℕ) × ((t ≡ Directory p d)
      × ((at ≡ at_place p d i) × (wanted (rows_of s.memory p d) ≡ Some i)))))
  row_in_at wanted place Itself at e = never_ok _ at e
  row_in_at wanted place (File p r) at e = never_ok _ at e
  row_in_at wanted place (Directory p d) at e =
      let found =
      given_ok (wanted (rows_of s.memory p d)) (NoSuchRow place) (λ i. Ok (at_place p d i)) at
      e in
      (p, (d, (found.0, (refl, (sym (same_ok found.1.1), found.1.0)))))

  -- P holds of each change that an update comes to at its object
  pub record Each (P : Update → Target → Change → Type 0) : Type 0 where
    pub file_made : (bs : List ℕ) (secret : Secret) (t : Target) (spot : Spot)
        → is_fit_for s secret ≡ true → FreeSpot (length bs) spot
        → P (create_file bs secret) t (new_file s bs secret spot)
    pub directory_made : (secret : Secret) (t : Target) (p : ℕ) → is_fit_for s secret ≡ true
        → FreePlace p → P (create_directory secret) t (new_directory s secret p)
    pub row_entered : (bs : List ℕ) (entry : Capability) (masks : Masks) (p : ℕ)
        (d : DirectoryRecord) → Enterable bs entry p d
        → P (enter bs entry masks) (Directory p d)
        (with_row s (row_of bs entry masks) (directory_at p d))
    pub row_removed : (bs : List ℕ) (p : ℕ) (d : DirectoryRecord) (i : ℕ)
        → place_of_name bs (rows_of s.memory p d) ≡ Some i
        → P (remove bs) (Directory p d) (without_row s (at_place p d i))
    pub file_gone : (p : ℕ) (r : FileRecord) → P destroy (File p r) (destruction s (File p r))
    pub directory_gone : (p : ℕ) (d : DirectoryRecord)
        → P destroy (Directory p d) (destruction s (Directory p d))
    pub renewed_secret : (secret : Secret) (t : Target) → is_fit_for s secret ≡ true
        → P (revoke secret) t (revocation s secret t)

  -- P holds of all that a query is told at its object
  pub record EachTold (rights : ℕ) (P : Query → Target → Told → Type 0) : Type 0 where
    pub file_read : (p : ℕ) (r : FileRecord) → P read (File p r) (the_bytes (bytes_in s.memory r))
    pub file_sized : (p : ℕ) (r : FileRecord) → P size (File p r) (the_size r.length)
    pub name_found : (bs : List ℕ) (t : Target) (c : Capability) → lookup_at s rights bs 0 t ≡ Ok c
        → P (look_up bs) t (found c)
    pub path_found : (path : List ℕ) (t : Target) (c : Capability)
        → walk_end_at s rights (names_in path) 1 t ≡ Ok c → P (walk path) t (found c)
    pub row_told : (n : ℕ) (p : ℕ) (d : DirectoryRecord) (i : ℕ)
        → nth_place n (rows_of s.memory p d) ≡ Some i
        → P (row n) (Directory p d) (the_name (name_at s.memory (at_place p d i)))
    pub name_told : (o : ℕ) (p : ℕ) (d : DirectoryRecord) (i : ℕ)
        → place_of_object o (rows_of s.memory p d) ≡ Some i
        → P (name o) (Directory p d) (the_name (name_at s.memory (at_place p d i)))

  -- what is told of a file, where it is told
  by_file : (P : Target → Told → Type 0) (tell : FileRecord → Told)
      → ((p : ℕ) (r : FileRecord) → P (File p r) (tell r)) → (t : Target) (told : Told)
      → and_then (file_in t) (λ r. Ok (tell r)) ≡ Ok told → P t told
  by_file P tell each Itself told e = never_ok _ told e
  by_file P tell each (File p r) told e = subst (P (File p r)) (same_ok e) (each p r)
  by_file P tell each (Directory p d) told e = never_ok _ told e

  -- a change at a row, where it is made
  by_row : {A : Type 0} (P : Target → A → Type 0) (place : List Row → Option ℕ) (make : RowAt → A)
      → ((p : ℕ) (d : DirectoryRecord) (i : ℕ) → place (rows_of s.memory p d) ≡ Some i
      → P (Directory p d) (make (at_place p d i)))
      → (t : Target) (change : A)
      → and_then (wanted_row s.memory place 0 t) (λ at. Ok (make at)) ≡ Ok change → P t change
  by_row P place make each t change e =
      let made = and_then_ok (wanted_row s.memory place 0 t) (λ at. Ok (make at)) change e in
      let at = row_in_at place 0 t made.0 made.1.0 in
      let shown : P (Directory at.0 at.1.0) (make (at_place at.0 at.1.0 at.1.1.0)) =
      each at.0 at.1.0 at.1.1.0 at.1.1.1.1.1 in
      subst (λ x. P x change) (sym at.1.1.1.0)
      (subst (P (Directory at.0 at.1.0)) (ap make (sym at.1.1.1.1.0) ∙ same_ok made.1.1) shown)

  entry_fits : (bs : List ℕ) (entry : Capability) (p : ℕ) (d : DirectoryRecord) (u : Unit {0})
      → is_lawful_name bs ≡ true
      → entry_form s bs entry (directory_at p d) ≡ Ok u → Enterable bs entry p d
  entry_fits bs entry p d u lawful e =
      let accept =
      and_then_ok (refused_as (λ _. EntryNotAccepted)
      (authentic_target s.kept.family s.kept.port.bytes s.kept.own s.memory entry)) _ u e in
      let new =
      unless_ok (is_none (place_of_name bs (rows_of s.memory p d))) NameTaken _ u accept.1.1 in
      let room = unless_ok (nat_lt d.count 16) DirectoryFull _ u new.1 in
      record {
        lawful = lawful;
        target = accept.0;
        accepted = refused_as_ok (λ _. EntryNotAccepted) _ accept.0 accept.1.0;
        new = new.0;
        room = room.0;
      }

  by_entry : (P : Target → Change → Type 0) (bs : List ℕ) (entry : Capability) (masks : Masks)
      → is_lawful_name bs ≡ true
      → ((p : ℕ) (d : DirectoryRecord) → Enterable bs entry p d
      → P (Directory p d) (with_row s (row_of bs entry masks) (directory_at p d)))
      → (t : Target) (change : Change)
      → and_then (room_in s bs entry t) (λ d. Ok (with_row s (row_of bs entry masks) d)) ≡ Ok change
      → P t change
  by_entry P bs entry masks lawful each Itself change e = never_ok _ change e
  by_entry P bs entry masks lawful each (File p r) change e = never_ok _ change e
  by_entry P bs entry masks lawful each (Directory p d) change e =
      let make : DirectoryAt → Change = with_row s (row_of bs entry masks) in
      let made =
      and_then_ok (and_then (entry_form s bs entry (directory_at p d))
      (λ _. Ok (directory_at p d))) (λ x. Ok (make x)) change e in
      let enters =
      and_then_ok (entry_form s bs entry (directory_at p d)) (λ _. Ok (directory_at p d)) made.0
      made.1.0 in
      subst (P (Directory p d)) (ap make (same_ok enters.1.1) ∙ same_ok made.1.1)
      (each p d (entry_fits bs entry p d enters.0 lawful enters.1.0))

  by_update : (P : Update → Target → Change → Type 0) → Each P
      → (u : Update) (t : Target) (change : Change)
      → (x : Unit {0}) × ((rule_of (update u)).form ≡ Ok x)
      → is_usable s t (rule_of (update u)).secret ≡ true → change_at s u t ≡ Ok change
      → P u t change
  by_update P each (create_file bs secret) t change formed fit e =
      let made =
      and_then_ok (spot_for s (length bs)) (λ spot. Ok (new_file s bs secret spot)) change e in
      subst (P (create_file bs secret) t) (same_ok made.1.1)
      (each.file_made bs secret t made.0 fit (spot_fits (length bs) made.0 made.1.0))
  by_update P each (create_directory secret) t change formed fit e =
      let made = and_then_ok (place_for s) (λ p. Ok (new_directory s secret p)) change e in
      subst (P (create_directory secret) t) (same_ok made.1.1)
      (each.directory_made secret t made.0 fit (place_fits made.0 made.1.0))
  by_update P each (enter bs entry masks) t change formed fit e =
      by_entry (P (enter bs entry masks)) bs entry masks
      (unless_ok (is_lawful_name bs) BadName (Ok tt) formed.0 formed.1).0
      (each.row_entered bs entry masks) t change e
  by_update P each (remove bs) t change formed fit e =
      by_row (P (remove bs)) (place_of_name bs) (without_row s) (each.row_removed bs) t change e
  by_update P each destroy Itself change formed fit e = never_ok _ change e
  by_update P each destroy (File p r) change formed fit e =
      subst (P destroy (File p r)) (same_ok e) (each.file_gone p r)
  by_update P each destroy (Directory p d) change formed fit e =
      let made =
      and_then_ok (destructible_object (Directory p d)) (λ t. Ok (destruction s t)) change e in
      let same =
      same_ok (unless_ok (eqb d.count 0) RowsLeft (Ok (Directory p d)) made.0 made.1.0).1 in
      subst (P destroy (Directory p d)) (ap (destruction s) same ∙ same_ok made.1.1)
      (each.directory_gone p d)
  by_update P each (revoke secret) t change formed fit e =
      subst (P (revoke secret) t) (same_ok e)
      (each.renewed_secret secret t (and_parts (is_fit_for s secret) _ fit).0)

  pub by_change : (P : Update → Target → Change → Type 0) → Each P
      → {c : Capability} (u : Update) (change : Change) (x : Entered s c u change)
      → P u x.target change
  by_change P each u change x = by_update P each u x.target change x.formed x.usable x.made

  pub by_told : (rights : ℕ) (P : Query → Target → Told → Type 0) → EachTold rights P
      → (q : Query) (t : Target) (told : Told) → told_at s rights q t ≡ Ok told → P q t told
  by_told rights P each read =
      by_file (P read) (λ r. the_bytes (bytes_in s.memory r)) each.file_read
  by_told rights P each size = by_file (P size) (λ r. the_size r.length) each.file_sized
  by_told rights P each (look_up bs) = λ t told e.
      let made = and_then_ok (lookup_at s rights bs 0 t) (λ c. Ok (found c)) told e in
      subst (P (look_up bs) t) (same_ok made.1.1) (each.name_found bs t made.0 made.1.0)
  by_told rights P each (walk path) = λ t told e.
      let made =
      and_then_ok (walk_end_at s rights (names_in path) 1 t) (λ c. Ok (found c)) told e in
      subst (P (walk path) t) (same_ok made.1.1) (each.path_found path t made.0 made.1.0)
  by_told rights P each (row n) =
      by_row (P (row n)) (nth_place n) (λ at. the_name (name_at s.memory at)) (each.row_told n)
  by_told rights P each (name o) =
      by_row (P (name o)) (place_of_object o) (λ at. the_name (name_at s.memory at))
      (each.name_told o)
