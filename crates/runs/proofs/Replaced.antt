-- Memory stays in order where one record is replaced by another.
use Rattle.std.proofs.Common.{◌≡◌, ℕ, zero, suc, ◌+◌, ◌*◌, ◌<◌, ◌≤◌, true, List, [], ◌∷◌, length, take, drop, set, Some, sym, refl, ap, ◌∙◌, subst, inl, inr, arith}
use Rattle.std.specs.List.{AllByRecursion, slice_get}
use Rattle.std.proofs.ByRecursion.{All-set}
use Rattle.std.proofs.lemmas.List.{length-set, drop-drop}
use Rattle.std.proofs.lemmas.Bool.{cases_eq}
use Rattle.table.proofs.Reading.{nth-set_same, nth-set_other}
use Rattle.memory.specs.Soundness.{Content}
use Rattle.memory.specs.Words.{EachTwo, AreRowsSound, AreDirectoriesSound, IsSound}
use Rattle.memory.specs.declared.directory_record.DirectoryRecord.{DirectoryRecord}
use Rattle.memory.specs.declared.file_record.FileRecord.{FileRecord}
use Rattle.memory.specs.declared.row.Row.{Row}
use Rattle.memory.proofs.SoundFacts.{sound_decides}
use Rattle.store.specs.Kept.{Kept}
use Rattle.store.specs.Rows.{rows_of}
use Rattle.store.specs.Parts.{part_of}
use Rattle.store.specs.Order.{IsInOrder}
use Rattle.store.specs.Sizes.{sizes_agree}
use Rattle.store.proofs.Apart.{all_nth, FilesApart, whole}
use Rattle.store.specs.State.{State}

all_apply : {A : Type 0} (P Q : A → Type 0) (xs : List A) → AllByRecursion (λ x. P x → Q x) xs
    → AllByRecursion P xs → AllByRecursion Q xs
all_apply P Q [] steps all = tt
all_apply P Q (x ∷ xs) steps all = (steps.0 all.0, all_apply P Q xs steps.1 all.1)

-- each two elements still agree, where the new one agrees with each with which the old one did
each_two_set : {A : Type 0} (Q : A → A → Type 0) → ((x y : A) → Q x y → Q y x)
    → (xs : List A) (i : ℕ) (old new : A) → slice_get xs i ≡ Some old
    → AllByRecursion (λ x. Q old x → Q new x) xs → EachTwo Q xs → EachTwo Q (set xs i new)
each_two_set Q turn [] i old new e steps each = tt
each_two_set Q turn (x ∷ xs) zero old new e steps each =
    let same : x ≡ old = cc in (
      all_apply (Q old) (Q new) xs steps.1 (subst (λ y. AllByRecursion (Q y) xs) same each.0),
      each.1,
    )
each_two_set Q turn (x ∷ xs) (suc i) old new e steps each = (
  All-set (Q x) xs i new (turn new x (steps.0 (turn x old (all_nth (Q x) xs i old each.0 e))))
      each.0,
  each_two_set Q turn xs i old new e steps.1 each.1,
)

-- past the first sixteen rows
sixteen_on : (q : ℕ) (rows : List Row) → drop (16 * q) (drop 16 rows) ≡ drop (16 * suc q) rows
sixteen_on q rows = drop-drop (16 * q) 16 rows ∙ ap (λ i. drop i rows) (omega arith)

-- soundness of the rows of directories, place by place
module _ (n : ℕ) (port : List ℕ) where
  abbrev RowsIn : DirectoryRecord → List Row → Type 0
  RowsIn d rows = d.live ≡ true → AreRowsSound n port (take d.count rows)

  rows_at : (ds : List DirectoryRecord) (rows : List Row) → AreDirectoriesSound n port ds rows
      → (q : ℕ) (d : DirectoryRecord) → slice_get ds q ≡ Some d → RowsIn d (drop (16 * q) rows)
  rows_at [] rows all q d e = absurd (let z : ◌≡◌ {A = ℕ} 0 1 = cc in omega arith)
  rows_at (x ∷ ds) rows all zero d e = subst (λ y. RowsIn y rows) (let s : x ≡ d = cc in s) all.0
  rows_at (x ∷ ds) rows all (suc q) d e =
      subst (RowsIn d) (sixteen_on q rows) (rows_at ds (drop 16 rows) all.1 q d e)

  rows_from : (ds : List DirectoryRecord) (rows : List Row)
      → ((q : ℕ) (d : DirectoryRecord) → slice_get ds q ≡ Some d → RowsIn d (drop (16 * q) rows))
      → AreDirectoriesSound n port ds rows
  rows_from [] rows each = tt
  rows_from (x ∷ ds) rows each = (
    each 0 x refl,
    rows_from ds (drop 16 rows)
        (λ q d e. subst (RowsIn d) (sym (sixteen_on q rows)) (each (suc q) d e)),
  )

-- a store over memory
abbrev pub over : Kept → Content → State
over k m = record { kept = k; memory = m }

-- the live directories but one have the rows that they had
abbrev pub OthersStay : Content → ℕ → List Row → Type 0
OthersStay m i rows =
    (q : ℕ) (d : DirectoryRecord) → (q ≡ i → ⊥) → slice_get m.directories q ≡ Some d → d.live ≡ true
    → part_of (16 * q) d.count rows ≡ rows_of m q d

-- a file replaced, with another area; a directory replaced, with other rows
abbrev pub with_file_at : Content → ℕ → FileRecord → List ℕ → Content
with_file_at m i new area =
    record { files = set m.files i new; directories = m.directories; rows = m.rows; area = area }

abbrev pub with_directory_at : Content → ℕ → DirectoryRecord → List Row → Content
with_directory_at m i new rows =
    record { files = m.files; directories = set m.directories i new; rows = rows; area = m.area }

module _ (s : State) (h : IsInOrder s) where
  words : IsSound s.kept.family.modulus s.kept.port.bytes s.memory
  words = whole s h.sound

  -- memory of the same sizes that is sound in words
  in_order : (m' : Content) → length m'.files ≡ length s.memory.files
      → length m'.directories ≡ length s.memory.directories
      → length m'.rows ≡ length s.memory.rows → length m'.area ≡ length s.memory.area
      → IsSound s.kept.family.modulus s.kept.port.bytes m' → IsInOrder (over s.kept m')
  in_order m' files directories rows area sound = record {
    sizes = let same : sizes_agree (over s.kept m') ≡ sizes_agree s = cc in same ∙ h.sizes;
    sound = (sound_decides s.kept.family.modulus s.kept.port.bytes m').1 sound;
  }

  -- the new file has a secret below the modulus, lies in the area, and shares no byte with any file
  -- with which the old one shared none
  pub file_replaced : (i : ℕ) (old new : FileRecord) (area : List ℕ)
      → slice_get s.memory.files i ≡ Some old → length area ≡ length s.memory.area
      → (new.live ≡ true → new.secret.value < s.kept.family.modulus)
      → (new.live ≡ true → new.start + new.length ≤ length s.memory.area)
      → AllByRecursion (λ r. FilesApart old r → FilesApart new r) s.memory.files
      → IsInOrder (over s.kept (with_file_at s.memory i new area))
  file_replaced i old new area e same below within steps =
      in_order (with_file_at s.memory i new area) (length-set s.memory.files i new) refl refl same
      (record {
        file_secrets = All-set _ s.memory.files i new below words.file_secrets;
        directory_secrets = words.directory_secrets;
        within = rw same (All-set _ s.memory.files i new within words.within);
        apart =
            each_two_set FilesApart (λ x y h p q b s t. h q p b t s) s.memory.files i old new e
            steps words.apart;
        counts = words.counts;
        rows = words.rows;
      })

  -- the counted rows of a live directory are sound
  pub rows_of_sound : (q : ℕ) (d : DirectoryRecord) → slice_get s.memory.directories q ≡ Some d
      → d.live ≡ true → AreRowsSound s.kept.family.modulus s.kept.port.bytes (rows_of s.memory q d)
  rows_of_sound =
      rows_at s.kept.family.modulus s.kept.port.bytes s.memory.directories s.memory.rows words.rows

  -- the new directory has a secret below the modulus and few rows, which are sound, and the others
  -- have the rows that they had
  pub directory_replaced : (i : ℕ) (new : DirectoryRecord) (rows : List Row)
      → i < length s.memory.directories → length rows ≡ length s.memory.rows
      → (new.live ≡ true → new.secret.value < s.kept.family.modulus) → new.count ≤ 16
      → OthersStay s.memory i rows
      → (new.live ≡ true → AreRowsSound s.kept.family.modulus s.kept.port.bytes
      (part_of (16 * i) new.count rows))
      → IsInOrder (over s.kept (with_directory_at s.memory i new rows))
  directory_replaced i new rows within same below few stay sound =
      in_order (with_directory_at s.memory i new rows) refl (length-set s.memory.directories i new)
      same refl (record {
        file_secrets = words.file_secrets;
        directory_secrets = All-set _ s.memory.directories i new below words.directory_secrets;
        within = words.within;
        apart = words.apart;
        counts = All-set _ s.memory.directories i new few words.counts;
        rows =
            rows_from s.kept.family.modulus s.kept.port.bytes (set s.memory.directories i new) rows
            (λ q d at live. elim (cases_eq q i) [
              | inl here ↦
                  let same : new ≡ d = let e = nth-set_same s.memory.directories i new within in
                  cc in
                  subst (λ j. RowsIn s.kept.family.modulus s.kept.port.bytes d (drop (16 * j) rows))
                  (sym here)
                  (subst (λ x. RowsIn s.kept.family.modulus s.kept.port.bytes x
                  (drop (16 * i) rows))
                  same sound) live
              | inr other ↦
                  let was : slice_get s.memory.directories q ≡ Some d =
                  sym (nth-set_other s.memory.directories i q new other) ∙ at in
                  subst (AreRowsSound s.kept.family.modulus s.kept.port.bytes)
                  (sym (stay q d other was live)) (rows_of_sound q d was live)
            ]);
      })
