-- What each change does to the objects: one of them is made, destroyed or given another secret, and
-- the others stay.
use Rattle.std.proofs.Common.{◌≡◌, ℕ, ◌+◌, ◌-◌, ◌*◌, ◌<◌, ◌≤◌, true, List, [], ◌∷◌, ◌++◌, length, take, get_or, replicate, Some, None, sym, refl, ap, ◌∙◌, arith}
use Rattle.std.specs.Option.{option_map}
use Rattle.std.specs.List.{slice_get}
use Rattle.std.proofs.lemmas.List.{length-append, length-replicate}
use Rattle.std.proofs.lemmas.Bool.{cond-true}
use Rattle.secret.specs.declared.secret.Secret.{Secret}
use Rattle.table.proofs.Reading.{nth_some}
use Rattle.memory.specs.Parts.{IsInPart, IsClearOf}
use Rattle.memory.specs.Records.{recounted_directory, made_file, made_directory, blank_file, blank_directory, renewed_file, renewed_directory, zero_file, zero_directory}
use Rattle.memory.specs.declared.directory_record.DirectoryRecord.{DirectoryRecord}
use Rattle.memory.specs.declared.file_record.FileRecord.{FileRecord}
use Rattle.memory.specs.declared.row.Row.{Row}
use Rattle.rows.specs.Changes.{rows_without, with_gap_closed}
use Rattle.rows.proofs.RowFacts.{take_entered, length_closed, take_closed}
use Rattle.admission.specs.declared.target.Target.{Target}
use Rattle.admission.specs.declared.target.Target.TheVariants.{Itself, File, Directory}
use Rattle.store.specs.Parts.{with_part, part_of}
use Rattle.store.specs.CreateFile.{new_file}
use Rattle.store.specs.CreateDirectory.{new_directory}
use Rattle.store.specs.Destroy.{without_file, without_directory}
use Rattle.store.specs.Enter.{with_row}
use Rattle.store.specs.Remove.{without_row}
use Rattle.store.specs.Kept.{after_file, after_directory}
use Rattle.store.specs.Rows.{rows_of, with_rows}
use Rattle.store.specs.Read.{bytes_in}
use Rattle.runs.specs.Views.{a_file, a_directory, view_of, with_secret}
use Rattle.store.specs.State.{is_sound_for, State}
use Rattle.store.specs.Order.{IsInOrder}
use Rattle.store.specs.declared.create_file.Spot.{Spot}
use Rattle.store.proofs.Admitting.{sizes_same}
use Rattle.store.proofs.Apart.{all_nth, whole, file_within, files_apart_lem}
use Rattle.runs.proofs.Entered.{FreeSpot, FreePlace}
use Rattle.runs.proofs.Overwriting.{part_written, part_outside}
use Rattle.store.proofs.AnswerWords.{length_part}
use Rattle.runs.proofs.Relisted.{relisted_turned, relisted_seen}
use Rattle.runs.proofs.Sighted.{Turned, turned_as, own_turned, file_turned, directory_turned}
use Rattle.store.proofs.Standing.{Stands}
use Rattle.runs.proofs.Replaced.{over}
use Rattle.store.specs.Revoke.{revocation}

module _ (s : State) where
  pub directory_made : (secret : Secret) (p : ℕ) → FreePlace s p
      → Turned s (new_directory s secret p).after (1 + length s.memory.files + p)
      (Some (a_directory secret []))
  directory_made secret p (within, free) =
      directory_turned s (after_directory s.kept p) refl p
      (made_directory (get_or s.memory.directories p zero_directory) secret) s.memory.rows
      within
      (λ _ _ _ _ _. refl)

  -- an object is given another secret
  pub renewed_turned : (o : ℕ) (secret : Secret) (target : Target) → Stands s.memory o target
      → Turned s (revocation s secret target).after o (Some (with_secret secret (view_of s target)))
  renewed_turned o secret Itself stands = turned_as (sym stands) refl (own_turned s secret)
  renewed_turned o secret (File p r) (number, (here, live)) =
      turned_as (sym number) (ap (option_map (λ r. view_of s (File p r)))
      (cond-true r.live (Some (renewed_file r secret)) None live))
      (file_turned s s.kept refl p (renewed_file r secret) s.memory.area
      (nth_some s.memory.files p r here) (λ q s other at alive. refl))
  renewed_turned o secret (Directory p d) (number, (here, live)) =
      turned_as (sym number) (ap (option_map (λ d. view_of s (Directory p d)))
      (cond-true d.live (Some (renewed_directory d secret)) None live))
      (directory_turned s s.kept refl p (renewed_directory d secret) s.memory.rows
      (nth_some s.memory.directories p d here) (λ _ _ _ _ _. refl))

  -- a directory is destroyed
  pub directory_gone : (o p : ℕ) (d : DirectoryRecord) → Stands s.memory o (Directory p d)
      → Turned s (over s.kept (without_directory s.memory p)) o None
  directory_gone o p d (number, (here, live)) =
      rw here (turned_as (sym number) refl
      (directory_turned s s.kept refl p (blank_directory d) s.memory.rows
      (nth_some s.memory.directories p d here) (λ _ _ _ _ _. refl)))

-- a directory has other rows
module _ (s : State) (order : IsInOrder s) where
  -- its rows are rewritten, and the first so many of them counted
  relisted_to : (o p : ℕ) (d : DirectoryRecord) (rows : List Row) (count : ℕ)
      → Stands s.memory o (Directory p d) → length rows ≤ 16 → count ≤ length rows
      → Turned s (over s.kept (with_rows s.memory p (recounted_directory d count) rows)) o
      (Some (a_directory d.secret (take count rows)))
  relisted_to o p d rows count (number, (here, live)) short few =
      turned_as (sym number)
      (ap (option_map (λ x. view_of
      (over s.kept (with_rows s.memory p (recounted_directory d count) rows)) (Directory p x)))
      (cond-true d.live (Some (recounted_directory d count)) None live)
      ∙ ap (λ xs. Some (a_directory d.secret xs))
      (relisted_seen s order p d (recounted_directory d count) rows here short few))
      (relisted_turned s order p d (recounted_directory d count) rows here short)

  -- a directory counts as many rows as are seen, and no more than sixteen
  pub few_listed : (o p : ℕ) (d : DirectoryRecord) → Stands s.memory o (Directory p d)
      → (length (rows_of s.memory p d) ≡ d.count) × (d.count ≤ 16)
  few_listed o p d (number, (here, live)) =
      let sizes = sizes_same s order.sizes in
      let few =
      all_nth (λ d. d.count ≤ 16) s.memory.directories p d (whole s order.sound).counts here in
      let there = nth_some s.memory.directories p d here in
      (length_part s.memory.rows (16 * p) d.count (omega (arith, sizes.1, sizes.2)), few)

  pub row_entered_turned : (o p : ℕ) (d : DirectoryRecord) (row : Row)
      → Stands s.memory o (Directory p d) → d.count < 16
      → Turned s (with_row s row (record {
        place = p;
        found =
            d;
      })).after o (Some (a_directory d.secret (rows_of s.memory p d ++ row ∷ [])))
  row_entered_turned o p d row stands room =
      let rows = rows_of s.memory p d in
      let counted = (few_listed o p d stands).0 in
      let more = length-append rows (row ∷ []) in
      turned_as refl (ap (λ xs. Some (a_directory d.secret xs))
      (ap (λ c. take (c + 1) (rows ++ row ∷ [])) (sym counted) ∙ take_entered rows row))
      (relisted_to o p d (rows ++ row ∷ []) (d.count + 1) stands (omega (arith, counted, more))
      (omega (arith, counted, more)))

  pub row_removed_turned : (o p : ℕ) (d : DirectoryRecord) (i : ℕ)
      → Stands s.memory o (Directory p d) → i < length (rows_of s.memory p d)
      → Turned s (without_row s (record {
        directory = record { place = p; found = d };
        row =
            i;
      })).after o (Some (a_directory d.secret (rows_without i (rows_of s.memory p d))))
  row_removed_turned o p d i stands there =
      let rows = rows_of s.memory p d in
      let few = few_listed o p d stands in
      let size = length_closed rows i there in
      turned_as refl (ap (λ xs. Some (a_directory d.secret xs))
      (ap (λ c. take (c - 1) (with_gap_closed i rows)) (sym few.0) ∙ take_closed rows i there))
      (relisted_to o p d (with_gap_closed i rows) (d.count - 1) stands
      (omega (arith, few.0, few.1, size)) (omega (arith, few.0, size)))

-- files are made and destroyed over sound memory
module _ (s : State) (sound : is_sound_for s ≡ true) where
  -- a live file's bytes stay where what is written shares none of them
  bytes_stay : (start : ℕ) (bs : List ℕ) → start + length bs ≤ length s.memory.area
      → (q : ℕ) (r : FileRecord) → slice_get s.memory.files q ≡ Some r → r.live ≡ true
      → ((b : ℕ) → IsInPart start (length bs) b → IsInPart r.start r.length b → ⊥)
      → part_of r.start r.length (with_part s.memory.area start bs) ≡ bytes_in s.memory r
  bytes_stay start bs h q r at live none =
      part_outside s.memory.area start bs h r.start r.length (file_within s sound q r at live) none

  pub file_made : (bs : List ℕ) (secret : Secret) (spot : Spot) → FreeSpot s (length bs) spot
      → Turned s (new_file s bs secret spot).after (1 + spot.place) (Some (a_file secret bs))
  file_made bs secret spot (right, free, clear) =
      turned_as refl (ap (λ xs. Some (a_file secret xs))
      (part_written s.memory.area spot.start bs right.part))
      (file_turned s (after_file s.kept spot.place) refl spot.place
      (made_file (get_or s.memory.files spot.place zero_file) secret spot.start (length bs))
      (with_part s.memory.area spot.start bs) right.place
      (λ q r other at live. bytes_stay spot.start bs right.part q r at live
      (all_nth (IsClearOf spot.start (length bs)) s.memory.files q r clear at live)))

  -- a file is destroyed
  pub file_gone : (o p : ℕ) (r : FileRecord) → Stands s.memory o (File p r)
      → Turned s (over s.kept (without_file s.memory p r)) o None
  file_gone o p r (number, (here, live)) =
      let zeros : List ℕ = replicate r.length 0 in
      let size : length zeros ≡ r.length = length-replicate r.length 0 in
      let within : r.start + r.length ≤ length s.memory.area = file_within s sound p r here live in
      rw here (turned_as (sym number) refl
      (file_turned s s.kept refl p (blank_file r) (with_part s.memory.area r.start zeros)
      (nth_some s.memory.files p r here)
      (λ q r2 other at alive. bytes_stay r.start zeros (omega arith) q r2 at alive
      (λ b i j. files_apart_lem s sound p q r r2 other here live at alive b
      (i.0, omega (arith, i.1)) j))))
