-- Memory that is sound and of the right sizes stays so over every request, and wiped memory is
-- sound.
use Rattle.std.proofs.Common.{◌≡◌, ℕ, zero, suc, ◌+◌, ◌-◌, ◌<◌, ◌≤◌, true, false, ltb, List, [], ◌∷◌, ◌++◌, length, get_or, take, drop, replicate, Ok, Err, Result, sym, refl, ap, ◌∙◌, subst, arith}
use Rattle.std.specs.List.{AllByRecursion}
use Rattle.std.proofs.ByRecursion.{All-from_get_or, All-weaker}
use Rattle.std.proofs.lemmas.List.{length-append, length-replicate}
use Rattle.std.proofs.lemmas.Option.{slice_get-get_or}
use Rattle.std.proofs.lemmas.Bool.{and_parts, false≢true, ltb-true}
use Rattle.holder.specs.declared.capability.Capability.{Capability}
use Rattle.secret.specs.declared.secret.Secret.{Secret}
use Rattle.table.proofs.Reading.{nth_some}
use Rattle.memory.specs.Records.{recounted_directory, blank_file, blank_directory, made_file, made_directory, renewed_file, renewed_directory, zero_file, zero_directory}
use Rattle.memory.specs.Soundness.{Content, is_sound}
use Rattle.memory.specs.Wiped.{zeros_like}
use Rattle.memory.specs.Words.{EachTwo, AreRowsSound, AreDirectoriesSound}
use Rattle.memory.specs.declared.directory_record.DirectoryRecord.{DirectoryRecord}
use Rattle.memory.specs.declared.file_record.FileRecord.{FileRecord}
use Rattle.memory.specs.declared.row.Masks.{Masks}
use Rattle.memory.specs.declared.row.Row.{Row}
use Rattle.holder.specs.Dropping.{check_number}
use Rattle.secret.specs.Accepted.{is_plausible}
use Rattle.rows.specs.Changes.{row_of, with_gap_closed}
use Rattle.rows.proofs.RowFacts.{rows_entered, rows_removed, take_entered, length_closed, take_closed, searched_within}
use Rattle.memory.proofs.SoundFacts.{sound_decides}
use Rattle.admission.specs.declared.target.Target.{Target}
use Rattle.admission.specs.declared.target.Target.TheVariants.{Itself, File, Directory}
use Rattle.admission.specs.Objects.{object_number}
use Rattle.store.specs.Outcomes.{Change, outcome_by}
use Rattle.store.specs.Order.{is_fit_for, IsInOrder}
use Rattle.store.specs.Parts.{with_part}
use Rattle.store.specs.CreateFile.{new_file}
use Rattle.store.specs.CreateDirectory.{new_directory}
use Rattle.store.specs.Destroy.{without_file, without_directory}
use Rattle.store.specs.Enter.{with_row}
use Rattle.store.specs.Remove.{without_row}
use Rattle.store.specs.Rows.{rows_of}
use Rattle.store.specs.Requests.{Ask, query, update}
use Rattle.store.specs.Revoke.{revocation}
use Rattle.store.specs.Serve.{scratch_after}
use Rattle.runs.specs.Staying.{StaysInOrder}
use Rattle.store.specs.State.{State}
use Rattle.runs.specs.History.{Call, call_with}
use Rattle.store.specs.declared.create_file.Spot.{Spot}
use Rattle.store.specs.declared.error.StoreRefusal.{StoreRefusal}
use Rattle.store.proofs.Apart.{all_nth, whole, file_within}
use Rattle.runs.proofs.Entered.{entered_as, FreeSpot, FreePlace, Enterable, directory_at, at_place, Each, by_change, decision}
use Rattle.runs.proofs.Overwriting.{length_overwritten}
use Rattle.runs.proofs.Relisted.{relisted_in_order}
use Rattle.runs.proofs.SecretFacts.{judged_passes}
use Rattle.runs.proofs.Turning.{few_listed}
use Rattle.runs.proofs.Replaced.{file_replaced, rows_of_sound, directory_replaced, over}
use Rattle.store.proofs.Standing.{Stands, located_stands}
use Rattle.store.specs.Rules.{rule_of}

-- what is left by a request that is answered
abbrev InOrderAfter : Change → Type 0
InOrderAfter change = IsInOrder change.after

-- a free record passes what is asked of live ones only
when_free : {P : Type 0} → false ≡ true → P
when_free dead = absurd (false≢true dead)

-- a fit secret is below the modulus
fit_below : (s : State) (secret : Secret) → is_fit_for s secret ≡ true
    → secret.value < s.kept.family.modulus
fit_below s secret e =
    ltb-true secret.value s.kept.family.modulus
    (and_parts (ltb secret.value s.kept.family.modulus) _ e).0

module _ (s : State) (h : IsInOrder s) where
  file_created : (bs : List ℕ) (secret : Secret) (spot : Spot) → is_fit_for s secret ≡ true
      → FreeSpot s (length bs) spot → InOrderAfter (new_file s bs secret spot)
  file_created bs secret spot fit (right, free, clear) =
      let new =
      file_replaced s h spot.place (get_or s.memory.files spot.place zero_file)
      (made_file zero_file secret spot.start (length bs))
      (with_part s.memory.area spot.start bs)
      (slice_get-get_or s.memory.files spot.place zero_file right.place)
      (length_overwritten s.memory.area spot.start bs right.part) (λ _. fit_below s secret fit)
      (λ _. right.part)
      (All-weaker _ _ (λ r clear _ _. clear) s.memory.files clear) in
      record { sizes = new.sizes; sound = new.sound }

  directory_created : (secret : Secret) (p : ℕ) → is_fit_for s secret ≡ true → FreePlace s p
      → InOrderAfter (new_directory s secret p)
  directory_created secret p fit (within, free) =
      let new =
      directory_replaced s h p (made_directory zero_directory secret) s.memory.rows within refl
      (λ _. fit_below s secret fit) (omega arith) (λ _ _ _ _ _. refl) (λ _. (tt, tt)) in
      record { sizes = new.sizes; sound = new.sound }

  file_destroyed : (o p : ℕ) (r : FileRecord) → Stands s.memory o (File p r)
      → IsInOrder (over s.kept (without_file s.memory p r))
  file_destroyed o p r (_, (here, live)) =
      let ends : r.start + r.length ≤ length s.memory.area = file_within s h.sound p r here live in
      rw here (file_replaced s h p r (blank_file r)
      (with_part s.memory.area r.start (replicate r.length 0)) here
      (length_overwritten s.memory.area r.start (replicate r.length 0) (rw length-replicate ends))
      when_free when_free (All-from_get_or _ s.memory.files r (λ _ _ _. when_free)))

  -- the secret of a live directory is below the modulus
  directory_below : (o p : ℕ) (d : DirectoryRecord) → Stands s.memory o (Directory p d)
      → d.secret.value < s.kept.family.modulus
  directory_below o p d (_, (here, live)) =
      all_nth _ s.memory.directories p d (whole s h.sound).directory_secrets here live

  directory_destroyed : (o p : ℕ) (d : DirectoryRecord) → Stands s.memory o (Directory p d)
      → IsInOrder (over s.kept (without_directory s.memory p))
  directory_destroyed o p d (_, (here, live)) =
      rw here (directory_replaced s h p (blank_directory d) s.memory.rows
      (nth_some s.memory.directories p d here) refl
      when_free (omega arith) (λ _ _ _ _ _. refl) when_free)

  -- a directory with a row more, and with a row less
  entered_row : (o p : ℕ) (d : DirectoryRecord) (bs : List ℕ) (entry : Capability) (masks : Masks)
      → Stands s.memory o (Directory p d) → Enterable s bs entry p d
      → IsInOrder (with_row s (row_of bs entry masks) (directory_at s p d)).after
  entered_row o p d bs entry masks stands fits =
      let rows = rows_of s.memory p d in
      let new : Row = row_of bs entry masks in
      let few = few_listed s h o p d stands in
      let more = length-append rows (new ∷ []) in
      let room : d.count < 16 = ltb-true d.count 16 fits.room in
      let passes = judged_passes s entry fits.target fits.accepted in
      let low : check_number entry < s.kept.family.modulus =
      ltb-true (check_number entry) s.kept.family.modulus
      (and_parts (is_plausible s.kept.family.modulus (check_number entry)) _
      passes.accepts).0 in
      let is_sound =
      rows_entered s.kept.family.modulus s.kept.port.bytes rows bs entry masks
      (rows_of_sound s h p d stands.1.0 stands.1.1) fits.lawful passes.port low fits.new in
      relisted_in_order s h p d (recounted_directory d (d.count + 1)) (rows ++ new ∷ []) stands.1.0
      (omega (arith, few.0, more)) (omega (arith, few.0, more))
      (λ live. directory_below o p d stands)
      (λ live. subst (AreRowsSound s.kept.family.modulus s.kept.port.bytes)
      (sym (ap (λ c. take (c + 1) (rows ++ new ∷ [])) (sym few.0) ∙ take_entered rows new))
      is_sound)

  removed_row : (o p : ℕ) (d : DirectoryRecord) (i : ℕ) → Stands s.memory o (Directory p d)
      → i < length (rows_of s.memory p d)
      → IsInOrder (without_row s (at_place s p d i)).after
  removed_row o p d i stands there =
      let rows = rows_of s.memory p d in
      let few = few_listed s h o p d stands in
      let size = length_closed rows i there in
      let is_sound =
      rows_removed s.kept.family.modulus s.kept.port.bytes rows i
      (rows_of_sound s h p d stands.1.0 stands.1.1) in
      relisted_in_order s h p d (recounted_directory d (d.count - 1)) (with_gap_closed i rows)
      stands.1.0 (omega (arith, few.0, few.1, size)) (omega (arith, few.0, size))
      (λ live. directory_below o p d stands)
      (λ live. subst (AreRowsSound s.kept.family.modulus s.kept.port.bytes)
      (sym (ap (λ c. take (c - 1) (with_gap_closed i rows)) (sym few.0)
      ∙ take_closed rows i there)) is_sound)

  secret_renewed : (o : ℕ) (secret : Secret) (t : Target) → Stands s.memory o t
      → secret.value < s.kept.family.modulus → InOrderAfter (revocation s secret t)
  secret_renewed o secret Itself stands below = record { sizes = h.sizes; sound = h.sound }
  secret_renewed o secret (File p r) (_, (here, live)) below =
      file_replaced s h p r (renewed_file r secret) s.memory.area here refl (λ _. below)
      (file_within s h.sound p r here) (All-from_get_or _ s.memory.files r (λ _ _ same. same))
  secret_renewed o secret (Directory p d) (_, (here, live)) below =
      directory_replaced s h p (renewed_directory d secret) s.memory.rows
      (nth_some s.memory.directories p d here) refl (λ _. below)
      (all_nth _ s.memory.directories p d (whole s h.sound).counts here) (λ _ _ _ _ _. refl)
      (rows_of_sound s h p d here)

  -- update by update
  each_in_order : (o : ℕ) → Each s (λ u t change. Stands s.memory o t → InOrderAfter change)
  each_in_order o = record {
    file_made = λ bs secret t spot fit free stands. file_created bs secret spot fit free;
    directory_made = λ secret t p fit free stands. directory_created secret p fit free;
    row_entered = λ bs entry masks p d fits stands. entered_row o p d bs entry masks stands fits;
    row_removed =
        λ bs p d i hit stands. removed_row o p d i stands
        (searched_within bs (rows_of s.memory p d) i hit);
    file_gone = file_destroyed o;
    directory_gone = directory_destroyed o;
    renewed_secret =
        λ secret t fit stands. secret_renewed o secret t stands (fit_below s secret fit);
  }

-- a query and a refusal change nothing
stays : (s : State) (c : Capability) (ask : Ask) (x : List ℕ) → StaysInOrder s (call_with c ask x)
stays s c (query q) x h = h
stays s c (update u) x h = by_result (decision s c u x) refl
  where
    by_result : (r : Result Change StoreRefusal) → decision s c u x ≡ r
        → IsInOrder (outcome_by s (scratch_after s (rule_of (update u)) x) r).after
    by_result (Err e) decides = h
    by_result (Ok change) decides =
        let enters = entered_as s c u x change decides in
        by_change s (λ u t change. Stands s.memory (object_number c) t → InOrderAfter change)
        (each_in_order s h (object_number c)) u change enters
        (located_stands s.memory (object_number c) enters.target enters.object)

pub stays_in_order : (s : State) (call : Call) → StaysInOrder s call
stays_in_order s call = stays s call.presented call.ask call.scratch

-- lists of one element, again and again
all_replicate : {A : Type 0} (P : A → Type 0) (n : ℕ) (x : A) → P x
    → AllByRecursion P (replicate n x)
all_replicate P zero x p = tt
all_replicate P (suc n) x p = (p, all_replicate P n x p)

each_two_replicate : {A : Type 0} (Q : A → A → Type 0) (n : ℕ) (x : A) → Q x x
    → EachTwo Q (replicate n x)
each_two_replicate Q zero x q = tt
each_two_replicate Q (suc n) x q = (all_replicate (Q x) n x q, each_two_replicate Q n x q)

free_directories : (n : ℕ) (port : List ℕ) (count : ℕ) (rows : List Row)
    → AreDirectoriesSound n port (replicate count zero_directory) rows
free_directories n port zero rows = tt
free_directories n port (suc count) rows = (when_free, free_directories n port count (drop 16 rows))

pub wiped_sound : (n : ℕ) (port : List ℕ) (m : Content) → is_sound n port (zeros_like m) ≡ true
wiped_sound n port m = (sound_decides n port (zeros_like m)).1 (record {
  file_secrets = all_replicate _ (length m.files) zero_file when_free;
  directory_secrets = all_replicate _ (length m.directories) zero_directory when_free;
  within = all_replicate _ (length m.files) zero_file when_free;
  apart = each_two_replicate _ (length m.files) zero_file when_free;
  counts = all_replicate _ (length m.directories) zero_directory (omega arith);
  rows = free_directories n port (length m.directories) (zeros_like m).rows;
})
