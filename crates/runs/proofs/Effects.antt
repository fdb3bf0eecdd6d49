-- A request that is not refused changes the one object as it was asked to, and no other, and what
-- it tells is true.
use Rattle.std.proofs.Common.{◌≡◌, ℕ, ◌+◌, ◌^◌, ◌<◌, ◌≤◌, Bool, true, false, if◌then◌else◌, ltb, List, [], ◌∷◌, ◌++◌, length, get_or, IfSome, Some, None, Ok, Err, Option, Result, sym, refl, ap, ◌∙◌, subst, arith}
use Rattle.std.specs.Option.{option_map}
use Rattle.std.specs.List.{slice_get}
use Rattle.std.proofs.lemmas.Bool.{false≢true, ltb-true}
use Rattle.std.proofs.lemmas.Option.{slice_get-get_or}
use Rattle.refusal.proofs.ChainFacts.{same_ok, never_ok}
use Rattle.holder.specs.declared.capability.Capability.{Capability}
use Rattle.memory.specs.Wiped.{zero_row}
use Rattle.memory.specs.declared.directory_record.DirectoryRecord.{DirectoryRecord}
use Rattle.memory.specs.declared.file_record.FileRecord.{FileRecord}
use Rattle.memory.specs.declared.row.Row.{Row}
use Rattle.rows.specs.Search.{place_of_name, place_of_object}
use Rattle.rows.specs.Changes.{row_of}
use Rattle.rows.proofs.LastFacts.{last_within}
use Rattle.rows.proofs.RowFacts.{searched_within}
use Rattle.admission.specs.Objects.{target_at, object_number}
use Rattle.admission.specs.declared.target.Target.{Target}
use Rattle.admission.specs.declared.target.Target.TheVariants.{File, Directory}
use Rattle.store.specs.Outcomes.{Change, outcome_by}
use Rattle.store.specs.CreateFile.{new_file}
use Rattle.store.specs.CreateDirectory.{new_directory}
use Rattle.store.specs.Destroy.{destruction}
use Rattle.store.specs.Rows.{nth_place, row_at, name_at, rows_of}
use Rattle.store.specs.Enter.{with_row}
use Rattle.store.specs.Remove.{without_row}
use Rattle.store.specs.Kept.{file_number, directory_number, number_of}
use Rattle.store.specs.Read.{bytes_in}
use Rattle.store.specs.Requests.{Query, read, size, look_up, walk, row, name, Update, create_file, create_directory, enter, remove, destroy, revoke, Ask, query, update, Told, granted, the_bytes, the_size, found, the_name, done}
use Rattle.store.specs.Revoke.{revocation}
use Rattle.runs.specs.Views.{View, a_directory, view_of, view_at, changed_object, with_secret, with_changed_rows, without_place, view_after, is_creation, row_there, row_asked, TellsTruth, Effect, EffectOf}
use Rattle.store.specs.Serve.{outcome_of, scratch_after}
use Rattle.store.specs.Order.{IsInOrder}
use Rattle.store.specs.State.{State}
use Rattle.runs.specs.History.{Call, call_with}
use Rattle.store.specs.declared.error.StoreRefusal.{StoreRefusal}
use Rattle.store.proofs.Apart.{file_within}
use Rattle.store.proofs.Admitting.{sizes_same}
use Rattle.runs.proofs.Entered.{entered_as, queried_as, directory_at, at_place, Each, by_change, EachTold, by_told, decision}
use Rattle.store.proofs.AdmittedFacts.{standing_number, standing_narrow}
use Rattle.store.proofs.AnswerWords.{length_part}
use Rattle.runs.proofs.TellFacts.{object_told}
use Rattle.runs.proofs.Sighted.{no_file, no_directory, Turned}
use Rattle.store.proofs.Standing.{located_stands}
use Rattle.runs.proofs.Turning.{directory_made, renewed_turned, file_made, file_gone, directory_gone, row_entered_turned, row_removed_turned}
use Rattle.store.specs.Rules.{rule_of}

-- the row with a number is there where there are more rows
nth_found : (n : ℕ) (rows : List Row) (i : ℕ) → nth_place n rows ≡ Some i
    → slice_get rows n ≡ Some (get_or rows i zero_row)
nth_found n rows i e = by (ltb n (length rows)) refl e
  where
    by : (b : Bool) → ltb n (length rows) ≡ b → (if b then Some n else None) ≡ Some i
        → slice_get rows n ≡ Some (get_or rows i zero_row)
    by true q f = let same : n ≡ i = cc in
        subst (λ j. slice_get rows n ≡ Some (get_or rows j zero_row)) same
        (slice_get-get_or rows n zero_row (ltb-true n (length rows) q))
    by false q f = absurd (let z : ◌≡◌ {A = ℕ} 0 1 = cc in omega arith)

-- what holds of the place in an option holds of the place that it has
some_within : (P : ℕ → Type 0) (o : Option ℕ) (i : ℕ) → o ≡ Some i → IfSome o P → P i
some_within P o i e h = subst (λ x. IfSome x P) e h

module _ (s : State) (c : Capability) (x : List ℕ) where
  -- an update comes to a change
  abbrev ComesTo : Update → Change → Type 0
  ComesTo u change =
      outcome_of s c u x ≡ outcome_by s (scratch_after s (rule_of (update u)) x) (Ok change)

  -- that is what was asked for where the object told of is turned into that, and was not there if
  -- it was to be created
  turned_effect : (u : Update) (change : Change) (o : ℕ) (new : Option View) → ComesTo u change
      → changed_object c change.told ≡ Some o
      → new ≡ view_after (update u) (view_at s o)
      → (is_creation (update u) ≡ true → view_at s o ≡ None) → Turned s change.after o new
      → Effect s (call_with c (update u) x) change.told
  turned_effect u change o new comes e asked free turned =
      let after = subst (λ x. Turned s x.after o new) (sym comes) turned in
      record {
        there =
            λ q f. subst (λ n. view_at (outcome_of s c u x).after n
            ≡ view_after (update u) (view_at s n)) (same q f) (after.there ∙ asked);
        elsewhere = λ q other. after.elsewhere q (λ same. other (e ∙ ap Some (sym same)));
        new = λ created q f. subst (λ n. view_at s n ≡ None) (same q f) (free created);
        truth = of_change change.told e;
      }
    where
      same : (q : ℕ) → changed_object c change.told ≡ Some q → o ≡ q
      same q f = cc

      of_change : (told : Told) → changed_object c told ≡ Some o
          → TellsTruth s c (update u) told
      of_change (granted g) e = tt
      of_change (the_bytes bs) e = absurd (cc)
      of_change (the_size n) e = absurd (cc)
      of_change (found d) e = tt
      of_change (the_name bs) e = absurd (cc)
      of_change done e = tt

  -- a query changes nothing
  told_effect : (q : Query) (told : Told) → changed_object c told ≡ None
      → TellsTruth s c (query q) told
      → Effect s (call_with c (query q) x) told
  told_effect q told none truth = record {
    there = λ o e. refl;
    elsewhere = λ o _. refl;
    new = λ created. absurd (false≢true created);
    truth = truth;
  }

  -- what is shown of each change, and of all that is told, at the object presented
  abbrev HasEffect : Update → Target → Change → Type 0
  HasEffect u t change =
      target_at s.memory (object_number c) ≡ Some t → ComesTo u change
      → Effect s (call_with c (update u) x) change.told

  abbrev TellsTrue : Query → Target → Told → Type 0
  TellsTrue q t told =
      target_at s.memory (object_number c) ≡ Some t → Effect s (call_with c (query q) x) told

  module _ (files : s.kept.files ≤ 256) (directories : s.kept.directories ≤ 64)
      (order : IsInOrder s) where
    -- a file presented has as many bytes as its record says
    length_told : (p : ℕ) (r : FileRecord) → target_at s.memory (object_number c) ≡ Some (File p r)
        → length (bytes_in s.memory r) ≡ r.length
    length_told p r object =
        let stands = located_stands s.memory (object_number c) (File p r) object in
        length_part s.memory.area r.start r.length
        (file_within s order.sound p r stands.1.0 stands.1.1)

    -- a name that is told is that of the row asked for
    name_effect : (q : Query) (p : ℕ) (d : DirectoryRecord) (i : ℕ)
        → target_at s.memory (object_number c) ≡ Some (Directory p d)
        → row_asked (query q) (rows_of s.memory p d) ≡ Some (row_at s.memory (at_place s p d i))
        → Effect s (call_with c (query q) x) (the_name (name_at s.memory (at_place s p d i)))
    name_effect q p d i object hit =
        told_effect q (the_name (name_at s.memory (at_place s p d i))) refl (record {
          secret = d.secret;
          rows = rows_of s.memory p d;
          asked = row_at s.memory (at_place s p d i);
          directory = ap (option_map (view_of s)) object;
          found = hit;
          same = refl;
        })

    each_told : EachTold s c.rights.bits TellsTrue
    each_told = record {
      file_read = λ p r object.
          told_effect read (the_bytes (bytes_in s.memory r)) refl
          (r.secret, ap (option_map (view_of s)) object);
      file_sized = λ p r object.
          told_effect size (the_size r.length) refl (
            r.secret,
            (
              bytes_in s.memory r,
              (ap (option_map (view_of s)) object, sym (length_told p r object)),
            ),
          );
      name_found = λ bs t d e object. told_effect (look_up bs) (found d) refl tt;
      path_found = λ path t d e object. told_effect (walk path) (found d) refl tt;
      row_told =
          λ n p d i hit object. name_effect (row n) p d i object
          (nth_found n (rows_of s.memory p d) i hit);
      name_told = λ o p d i hit object.
          name_effect (name o) p d i object
          (ap (λ x. row_there x (rows_of s.memory p d)) hit
          ∙ slice_get-get_or (rows_of s.memory p d) i zero_row
          (some_within (λ j. j < length (rows_of s.memory p d))
          (place_of_object o (rows_of s.memory p d)) i hit
          (last_within o (rows_of s.memory p d))));
    }

    each_effect : Each s HasEffect
    each_effect = record {
      file_made = λ bs secret t spot fit fits object comes.
          let o : ℕ = file_number spot.place in
          let within = fits.0.place in
          let narrow : o < 2 ^ 24 = omega (arith, (sizes_same s order.sizes).0) in
          turned_effect (create_file bs secret) (new_file s bs secret spot) o _ comes
          (ap Some (object_told s.kept o secret narrow)) refl
          (λ _. no_file s spot.place within fits.1) (file_made s order.sound bs secret spot fits);
      directory_made = λ secret t p fit fits object comes.
          let within = fits.0 in
          let sizes = sizes_same s order.sizes in
          let narrow : directory_number s.kept p < 2 ^ 24 = omega (arith, sizes.1) in
          turned_effect (create_directory secret) (new_directory s secret p)
          (1 + length s.memory.files + p) _ comes
          (ap Some (object_told s.kept (directory_number s.kept p) secret narrow
          ∙ ap (λ n. 1 + n + p) (sym sizes.0))) refl
          (λ _. no_directory s p fits.1) (directory_made s secret p fits);
      row_entered = λ bs entry masks p d fits object comes.
          let stands = located_stands s.memory (object_number c) (Directory p d) object in
          let rows = rows_of s.memory p d in
          turned_effect (enter bs entry masks)
          (with_row s (row_of bs entry masks) (directory_at s p d)) (object_number c) _ comes
          refl
          (ap (λ t. option_map (with_changed_rows (λ rows. rows ++ row_of bs entry masks ∷ []))
          (option_map (view_of s) t)) (sym object))
          (λ created. absurd (false≢true created))
          (row_entered_turned s order (object_number c) p d (row_of bs entry masks) stands
          (ltb-true d.count 16 fits.room));
      row_removed = λ bs p d i hit object comes.
          let stands = located_stands s.memory (object_number c) (Directory p d) object in
          let rows = rows_of s.memory p d in
          turned_effect (remove bs) (without_row s (at_place s p d i)) (object_number c) _ comes
          refl
          (ap (λ x. Some (a_directory d.secret (without_place x rows))) (sym hit)
          ∙ ap (λ t. option_map (with_changed_rows
          (λ rows. without_place (place_of_name bs rows) rows))
          (option_map (view_of s) t)) (sym object))
          (λ created. absurd (false≢true created))
          (row_removed_turned s order (object_number c) p d i stands
          (searched_within bs rows i hit));
      file_gone = λ p r object comes.
          turned_effect destroy (destruction s (File p r)) (object_number c) None comes refl refl
          (λ created. absurd (false≢true created))
          (file_gone s order.sound (object_number c) p r
          (located_stands s.memory (object_number c) (File p r) object));
      directory_gone = λ p d object comes.
          turned_effect destroy (destruction s (Directory p d)) (object_number c) None comes refl
          refl (λ created. absurd (false≢true created))
          (directory_gone s (object_number c) p d
          (located_stands s.memory (object_number c) (Directory p d) object));
      renewed_secret = λ secret t fit object comes.
          let stands = located_stands s.memory (object_number c) t object in
          let narrow = standing_narrow s (object_number c) t stands order.sizes files directories in
          turned_effect (revoke secret) (revocation s secret t) (object_number c)
          (Some (with_secret secret (view_of s t))) comes
          (ap Some (object_told s.kept (number_of s.kept t) secret narrow
          ∙ standing_number s (object_number c) t stands order.sizes))
          (ap (λ t. option_map (with_secret secret) (option_map (view_of s) t)) (sym object))
          (λ created. absurd (false≢true created))
          (renewed_turned s (object_number c) secret t stands);
    }

effect : (s : State) (c : Capability) (ask : Ask) (x : List ℕ) → EffectOf s (call_with c ask x)
effect s c (query q) x files directories told answer =
    let enters = queried_as s c q told answer in
    by_told s c.rights.bits (TellsTrue s c x) (each_told s c x files directories enters.order) q
    enters.target told enters.made enters.object
effect s c (update u) x files directories told answer = by_result (decision s c u x) refl answer
  where
    scratch : List ℕ
    scratch = scratch_after s (rule_of (update u)) x

    by_result : (r : Result Change StoreRefusal) → decision s c u x ≡ r
        → (outcome_by s scratch r).answer ≡ Ok told → Effect s (call_with c (update u) x) told
    by_result (Err e) decides answer = never_ok e told answer
    by_result (Ok change) decides answer =
        let enters = entered_as s c u x change decides in
        subst (Effect s (call_with c (update u) x)) (same_ok answer)
        (by_change s (HasEffect s c x) (each_effect s c x files directories enters.order) u change
        enters
        enters.object (ap (outcome_by s scratch) decides))

pub effect_of : (s : State) (call : Call) → EffectOf s call
effect_of s call = effect s call.presented call.ask call.scratch
