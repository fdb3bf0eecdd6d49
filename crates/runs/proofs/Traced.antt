-- What ties the history of a store to the rows of its directories: each is what the last enter of
-- its name brought, so that look-ups find what was entered.
use Rattle.std.proofs.Common.{◌≡◌, ℕ, ◌<◌, Bool, true, false, cond, ◌&&◌, List, [], ◌∷◌, ◌++◌, length, Some, None, Ok, Err, Option, Result, is_none, sym, refl, ap, ◌∙◌, subst, inl, inr, arith}
use Rattle.std.specs.Option.{option_map, option_and_then}
use Rattle.std.specs.List.{AllByRecursion}
use Rattle.std.proofs.lemmas.Bool.{cases_eq, cond-true, cond-false, eq-eqb, ne_eqb}
use Rattle.holder.specs.Dropping.{check_number, within_mask}
use Rattle.holder.specs.declared.capability.Capability.{Capability}
use Rattle.secret.specs.declared.secret.Secret.{Secret}
use Rattle.memory.specs.Names.{is_same_name, name_of}
use Rattle.memory.specs.declared.row.Masks.{Masks}
use Rattle.memory.specs.declared.row.Row.{Row}
use Rattle.memory.proofs.SameNames.{same_name_true, same_name_words}
use Rattle.admission.specs.Objects.{object_number}
use Rattle.rows.specs.Changes.{row_of}
use Rattle.rows.specs.Search.{place_of_name}
use Rattle.rows.specs.Seen.{seen_mask}
use Rattle.rows.proofs.RowFacts.{all_entered, all_without, name_row, searched_none}
use Rattle.rows.proofs.SeenFacts.{seen_bound}
use Rattle.store.specs.LookUp.{shown_of}
use Rattle.store.specs.Requests.{Query, Update, create_file, create_directory, enter, remove, destroy, revoke, Ask, query, update, Told, found}
use Rattle.store.specs.declared.error.StoreRefusal.{StoreRefusal}
use Rattle.store.proofs.Apart.{all_nth}
use Rattle.runs.specs.Entries.{last_entered, names_asked, path_end}
use Rattle.runs.specs.History.{Event, call_with}
use Rattle.store.specs.State.{State}
use Rattle.store.specs.Serve.{outcome_of}
use Rattle.runs.specs.Views.{View, the_store, a_file, a_directory, Effect, changed_object, with_secret, with_changed_rows, without_place, view_after, view_at}
use Rattle.runs.proofs.TellFacts.{Finds, OwnerTold, Tells, object_told}
use Rattle.runs.proofs.Trails.{FollowsRow, Trail}

-- a row is what the last enter of its name into the directory brought
abbrev pub Brought : List Event → ℕ → Row → Type 0
Brought es o r = last_entered es o (name_of r) ≡ Some r.capability

-- so is each row of an object, if it is a directory
abbrev pub AllBrought : List Event → ℕ → Option View → Type 0
AllBrought es o seen_mask =
    (secret : Secret) (rows : List Row) → seen_mask ≡ Some (a_directory secret rows)
    → AllByRecursion (Brought es o) rows

abbrev pub RowsBrought : List Event → State → Type 0
RowsBrought es s = (o : ℕ) → AllBrought es o (view_at s o)

-- an object that is no directory has no rows
no_rows : (es : List Event) (o : ℕ) (seen_mask : Option View)
    → ((secret : Secret) (rows : List Row) → seen_mask ≡ Some (a_directory secret rows) → ⊥)
    → AllBrought es o seen_mask
no_rows es o seen_mask never secret rows e = absurd (never secret rows e)

-- a trail leads where the rows' capabilities were entered
module _ (es : List Event) (s : State) (brought : RowsBrought es s) where
  -- what is found at the end of a way is what is left of the capability last entered there
  pub record LedTo (c : Capability) (names : List (List ℕ)) (x : Capability) : Type 0 where
    pub source : Capability
    pub mask : ℕ
    pub narrow : mask < 256
    pub low : check_number source < s.kept.family.modulus
    pub way : path_end es c names ≡ Some source
    pub given : x ≡ within_mask s.kept.family.function source mask

  entered : (c : Capability) (bs : List ℕ) (r : Row) → FollowsRow s c bs r
      → last_entered es (object_number c) bs ≡ Some r.capability
  entered c bs r leads =
      ap (last_entered es (object_number c)) (sym leads.named)
      ∙ all_nth (Brought es (object_number c)) leads.rows leads.index r
      (brought (object_number c) leads.secret leads.rows leads.directory) leads.there

  pub trail_led : (bs : List ℕ) (names : List (List ℕ)) (c x : Capability)
      → Trail s c (bs ∷ names) x → LedTo c (bs ∷ names) x
  trail_led bs [] c x (r, (leads, e)) = record {
    source = r.capability;
    mask = (seen_mask c.rights.bits r.masks).bits;
    narrow = seen_bound c.rights.bits r.masks;
    low = leads.low;
    way = ap (option_and_then (λ b. path_end es b [])) (entered c bs r leads);
    given = sym e;
  }
  trail_led bs (bs' ∷ names) c x (r, (leads, rest)) =
      let next = trail_led bs' names (shown_of s c.rights.bits r) x rest in
      record {
        source = next.source;
        mask = next.mask;
        narrow = next.narrow;
        low = next.low;
        way =
            ap (option_and_then (λ b. path_end es b (bs' ∷ names))) (entered c bs r leads)
            ∙ next.way;
        given = next.given;
      }

  pub path_led : (names : List (List ℕ)) (c x : Capability) → 0 < length names → Trail s c names x
      → LedTo c names x
  path_led [] c x some trail = absurd (omega arith)
  path_led (bs ∷ names) c x some trail = trail_led bs names c x trail

-- one request more
module _ (es : List Event) (s : State) (brought : RowsBrought es s) where
  still : (e : Event) (o : ℕ) → ((bs : List ℕ) → last_entered (e ∷ es) o bs ≡ last_entered es o bs)
      → (rows : List Row) → AllByRecursion (Brought es o) rows
      → AllByRecursion (Brought (e ∷ es) o) rows
  still e o same [] all = tt
  still e o same (r ∷ rows) all = (same (name_of r) ∙ all.0, still e o same rows all.1)

  -- an event that entered nothing and left the state as it was: any query, and any refusal
  pub rows_stay : (e : Event)
      → ((o : ℕ) (bs : List ℕ) → last_entered (e ∷ es) o bs ≡ last_entered es o bs)
      → RowsBrought (e ∷ es) s
  rows_stay e same o secret rows f = still e o (same o) rows (brought o secret rows f)

module _ (es : List Event) (s : State) (brought : RowsBrought es s) (c : Capability) (x : List ℕ)
  where
    abbrev pub event : Ask → Result Told StoreRefusal → Event
    event ask answer = record { call = call_with c ask x; answer = answer }

    abbrev seen_after : Update → ℕ → Option View
    seen_after u o = view_at (outcome_of s c u x).after o

    -- of one object the rows are shown to be brought, and the others are as they were
    stepped : (u : Update) (told : Told) (q : ℕ) → Effect s (call_with c (update u) x) told
        → changed_object c told ≡ Some q
        → ((o : ℕ) → (o ≡ q → ⊥) → (bs : List ℕ)
        → last_entered (event (update u) (Ok told) ∷ es) o bs ≡ last_entered es o bs)
        → AllBrought (event (update u) (Ok told) ∷ es) q (view_after (update u) (view_at s q))
        → (o : ℕ) → AllBrought (event (update u) (Ok told) ∷ es) o (seen_after u o)
    stepped u told q effect changed same there o secret rows e = elim (cases_eq o q) [
      | inl here ↦
          subst (λ q. AllByRecursion (Brought (event (update u) (Ok told) ∷ es) q) rows) (sym here)
          (there secret rows (sym (effect.there q changed) ∙ sym (ap (seen_after u) here) ∙ e))
      | inr other ↦
          still es s brought (event (update u) (Ok told)) o (same o other) rows
          (brought o secret rows (sym (effect.elsewhere o (λ f. other (let q : o ≡ q = cc in q)))
          ∙ e))
    ]

    -- the rows of a directory with another secret
    renewed_brought : (o : ℕ) (secret : Secret) (old : Option View) → AllBrought es o old
        → AllBrought es o (option_map (with_secret secret) old)
    renewed_brought o secret None all t rows e = absurd (cc)
    renewed_brought o secret (Some (the_store x)) all t rows e = absurd (cc)
    renewed_brought o secret (Some (a_file x bs)) all t rows e = absurd (cc)
    renewed_brought o secret (Some (a_directory x rows')) all t rows e =
        let same : rows' ≡ rows = cc in
        subst (AllByRecursion (Brought es o)) same (all x rows' refl)

    -- the rows without one of them
    removed_brought : (o : ℕ) (bs : List ℕ) (old : Option View) → AllBrought es o old
        → AllBrought es o (option_map
        (with_changed_rows (λ rows. without_place (place_of_name bs rows) rows))
        old)
    removed_brought o bs None all t rows e = absurd (cc)
    removed_brought o bs (Some (the_store x)) all t rows e = absurd (cc)
    removed_brought o bs (Some (a_file x xs)) all t rows e = absurd (cc)
    removed_brought o bs (Some (a_directory x rows')) all t rows e =
        let same : without_place (place_of_name bs rows') rows' ≡ rows = cc in
        subst (AllByRecursion (Brought es o)) same
        (without (place_of_name bs rows') (all x rows' refl))
      where
        without : (p : Option ℕ) → AllByRecursion (Brought es o) rows'
            → AllByRecursion (Brought es o) (without_place p rows')
        without None h = h
        without (Some p) h = all_without (Brought es o) rows' p h

    -- the rows with one more
    module _ (bs : List ℕ) (entry : Capability) (masks : Masks) (told : Told) where
      abbrev entering : Event
      entering = event (update (enter bs entry masks)) (Ok told)

      entered_elsewhere : (o : ℕ) → (o ≡ object_number c → ⊥) → (xs : List ℕ)
          → last_entered (entering ∷ es) o xs ≡ last_entered es o xs
      entered_elsewhere o other xs =
          ap (λ b. cond (b && is_same_name bs xs) (Some entry) (last_entered es o xs))
          (ne_eqb (object_number c) o (λ e. other (sym e)))

      entered_other : (xs : List ℕ) → (xs ≡ bs → ⊥)
          → last_entered (entering ∷ es) (object_number c) xs ≡ last_entered es (object_number c) xs
      entered_other xs other =
          ap (λ b. cond (b && is_same_name bs xs) (Some entry)
          (last_entered es (object_number c) xs))
          (eq-eqb (object_number c) (object_number c) refl)
          ∙ cond-false (is_same_name bs xs) (Some entry) (last_entered es (object_number c) xs)
          (differ (is_same_name bs xs) refl)
        where
          differ : (b : Bool) → is_same_name bs xs ≡ b → b ≡ false
          differ false e = refl
          differ true e = absurd (other (sym (same_name_words bs xs e)))

      entered_here : (xs : List ℕ) → xs ≡ bs
          → last_entered (entering ∷ es) (object_number c) xs ≡ Some entry
      entered_here xs e =
          ap (λ b. cond (b && is_same_name bs xs) (Some entry)
          (last_entered es (object_number c) xs))
          (eq-eqb (object_number c) (object_number c) refl)
          ∙ cond-true (is_same_name bs xs) (Some entry) (last_entered es (object_number c) xs)
          (same_name_true bs xs (sym e))

      older : (rows : List Row) → AllByRecursion (λ r. name_of r ≡ bs → ⊥) rows
          → AllByRecursion (Brought es (object_number c)) rows
          → AllByRecursion (Brought (entering ∷ es) (object_number c)) rows
      older [] new all = tt
      older (r ∷ rows) new all = (entered_other (name_of r) new.0 ∙ all.0, older rows new.1 all.1)

      entered_brought : (old : Option View)
          → ((secret : Secret) (rows : List Row) → old ≡ Some (a_directory secret rows)
          → is_none (place_of_name bs rows) ≡ true)
          → AllBrought es (object_number c) old
          → AllBrought (entering ∷ es) (object_number c)
          (option_map (with_changed_rows (λ rows. rows ++ row_of bs entry masks ∷ [])) old)
      entered_brought None new all t rows e = absurd (cc)
      entered_brought (Some (the_store x)) new all t rows e = absurd (cc)
      entered_brought (Some (a_file x xs)) new all t rows e = absurd (cc)
      entered_brought (Some (a_directory x rows')) new all t rows e =
          let new_row : Row = row_of bs entry masks in
          let same : rows' ++ new_row ∷ [] ≡ rows = cc in
          subst (AllByRecursion (Brought (entering ∷ es) (object_number c))) same
          (all_entered (Brought (entering ∷ es) (object_number c)) rows' new_row
          (older rows' (searched_none bs rows' (new x rows' refl)) (all x rows' refl))
          (entered_here (name_of new_row) (name_row bs entry masks)))

    granted_changes : (told : Told) (o : ℕ) (secret : Secret) → OwnerTold s o secret told
        → changed_object c told ≡ Some o
    granted_changes told o secret owner =
        ap (changed_object c) owner.told_is ∙ ap Some (object_told s.kept o secret owner.narrow)

    none_is : {P : Type 0} {x : View} → None ≡ Some x → P
    none_is e = absurd (cc)

    pub rows_step : (u : Update) (told : Told) → Tells s c u told
        → Effect s (call_with c (update u) x) told → (o : ℕ)
        → AllBrought (event (update u) (Ok told) ∷ es) o (seen_after u o)
    rows_step (create_file bs secret) told tells effect =
        stepped (create_file bs secret) told tells.0 effect
        (granted_changes told tells.0 secret tells.1) (λ o d xs. refl) (λ t rows e. absurd (cc))
    rows_step (create_directory secret) told tells effect =
        stepped (create_directory secret) told tells.0 effect
        (granted_changes told tells.0 secret tells.1) (λ o d xs. refl)
        (λ t rows e. let same : ◌≡◌ {A = List Row} [] rows = cc in
        subst (AllByRecursion (Brought (event (update (create_directory secret)) (Ok told) ∷ es)
        tells.0)) same tt)
    rows_step (enter bs entry masks) told tells effect =
        stepped (enter bs entry masks) told (object_number c) effect (ap (changed_object c) tells.0)
        (entered_elsewhere bs entry masks told)
        (entered_brought bs entry masks told (view_at s (object_number c)) tells.1
        (brought (object_number c)))
    rows_step (remove bs) told tells effect =
        stepped (remove bs) told (object_number c) effect (ap (changed_object c) tells)
        (λ o d xs. refl)
        (removed_brought (object_number c) bs (view_at s (object_number c))
        (brought (object_number c)))
    rows_step destroy told tells effect =
        stepped destroy told (object_number c) effect (ap (changed_object c) tells) (λ o d xs. refl)
        (λ t rows e. none_is e)
    rows_step (revoke secret) told tells effect =
        stepped (revoke secret) told (object_number c) effect
        (granted_changes told (object_number c) secret tells.1) (λ o d xs. refl)
        (renewed_brought (object_number c) secret (view_at s (object_number c))
        (brought (object_number c)))

    -- a query enters nothing, answered or refused
    pub query_enters : (q : Query) (answer : Result Told StoreRefusal) (o : ℕ) (bs : List ℕ)
        → last_entered (event (query q) answer ∷ es) o bs ≡ last_entered es o bs
    query_enters q (Ok told) o bs = refl
    query_enters q (Err e) o bs = refl

    -- what a query found was led to
    pub query_led : (q : Query) (told : Told) → Finds s c q told → (d : Capability) → told ≡ found d
        → LedTo es s brought c (names_asked (query q)) d
    query_led q told finds d e = let leads = finds.leads d e in
        path_led es s brought (names_asked (query q)) c d leads.0 leads.1

    -- and an update finds nothing
    pub update_finds : (u : Update) (told : Told) → Tells s c u told → (d : Capability) {P : Type 0}
        → told ≡ found d → P
    update_finds (create_file bs secret) told tells d e =
        absurd (let f = sym tells.1.told_is ∙ e in cc)
    update_finds (create_directory secret) told tells d e =
        absurd (let f = sym tells.1.told_is ∙ e in cc)
    update_finds (enter bs entry masks) told tells d e = absurd (let f = sym tells.0 ∙ e in cc)
    update_finds (remove bs) told tells d e = absurd (let f = sym tells ∙ e in cc)
    update_finds destroy told tells d e = absurd (let f = sym tells ∙ e in cc)
    update_finds (revoke secret) told tells d e = absurd (let f = sym tells.1.told_is ∙ e in cc)
