-- The test of memory decides soundness in words.
use Rattle.std.proofs.Common.{◌≡◌, ℕ, ◌+◌, ◌≤◌, Bool, true, false, not, ◌||◌, eqb, leb, List, [], ◌∷◌, length, take, drop, Decides, refl}
use Rattle.std.specs.List.{AllByRecursion}
use Rattle.std.proofs.lemmas.Bool.{false≢true, leb-true, le-leb}
use Rattle.std.proofs.lemmas.Bool.Decides.{Decides-and, Decides-not, Decides-eqb, Decides-ltb, Decides-like}
use Rattle.std.proofs.ByRecursion.{Decides-by_and}
use Rattle.holder.specs.Dropping.{check_number}
use Rattle.std.specs.List.{list_all}
use Rattle.memory.specs.EachTwo.{pairwise}
use Rattle.memory.specs.Names.{IsSameName, is_same_name, is_name_byte, is_lawful_name, name_of}
use Rattle.memory.specs.Soundness.{Content, is_within_area, are_files_apart, has_few_rows, is_row_sound, are_rows_sound, is_directory_sound, are_directories_sound, are_secrets_below, are_files_sound, is_sound}
use Rattle.memory.specs.Words.{EachTwo, IsLawfulName, IsRowSound, AreRowsSound, AreDirectoriesSound, IsSound}
use Rattle.memory.specs.declared.directory_record.DirectoryRecord.{DirectoryRecord}
use Rattle.memory.specs.declared.row.Row.{Row}
use Rattle.memory.proofs.PlaceFacts.{clear_decides}
use Rattle.std.specs.Str.{bytes_eq}
use Rattle.std.proofs.lemmas.Slice.Eq.{bytes_eq-Decides}
use Rattle.memory.proofs.SameNames.{same_name_decides}

-- whole lists
decides_every : {A : Type 0} (p : A → Bool) (P : A → Type 0) → ((x : A) → Decides (p x) (P x))
    → (xs : List A) → Decides (list_all p xs) (AllByRecursion P xs)
decides_every p P d xs = Decides-by_and p P (list_all p) d refl (λ _ _. refl) xs

decides_pairs : {A : Type 0} (q : A → A → Bool) (Q : A → A → Type 0)
    → ((x y : A) → Decides (q x y) (Q x y)) → (xs : List A) → Decides (pairwise q xs) (EachTwo Q xs)
decides_pairs q Q d [] = (λ _. tt, λ _. refl)
decides_pairs q Q d (x ∷ xs) =
    Decides-and (list_all (q x) xs) (pairwise q xs) (decides_every (q x) (Q x) (d x) xs)
    (decides_pairs q Q d xs)

-- only where a record is live
decides_live : (live t : Bool) (P : Type 0) → Decides t P
    → Decides (not live || t) (live ≡ true → P)
decides_live true t P d = (λ e _. d.0 e, λ h. d.1 (h refl))
decides_live false t P d = (λ e f. absurd (false≢true f), λ h. refl)

decides_leb : (a b : ℕ) → Decides (leb a b) (a ≤ b)
decides_leb a b = (leb-true a b, le-leb a b)

-- names and rows
pub decides_name : (bs : List ℕ) → Decides (is_lawful_name bs) (IsLawfulName bs)
decides_name bs =
    Decides-and (leb 1 (length bs)) _ (decides_leb 1 (length bs))
    (Decides-and (leb (length bs) 24) _ (decides_leb (length bs) 24)
    (decides_every is_name_byte _
    (λ b. Decides-and (leb 33 b) _ (decides_leb 33 b)
    (Decides-and (leb b 126) _ (decides_leb b 126) (Decides-not (eqb b 47) (Decides-eqb b 47))))
    bs))

module _ (n : ℕ) (port : List ℕ) where
  decides_row : (row : Row) → Decides (is_row_sound n port row) (IsRowSound n port row)
  decides_row row =
      Decides-and (is_lawful_name (name_of row)) _ (decides_name (name_of row))
      (Decides-and (leb row.length 24) _ (decides_leb row.length 24)
      (Decides-and (bytes_eq row.capability.port.bytes port) _
      (bytes_eq-Decides row.capability.port.bytes port)
      (Decides-ltb (check_number row.capability) n)))

  decides_rows : (rows : List Row) → Decides (are_rows_sound n port rows) (AreRowsSound n port rows)
  decides_rows rows =
      Decides-and (list_all (is_row_sound n port) rows) _
      (decides_every (is_row_sound n port) (IsRowSound n port) decides_row rows)
      (decides_pairs (λ r r'. not (is_same_name (name_of r) (name_of r')))
      (λ r r'. IsSameName (name_of r) (name_of r') → ⊥)
      (λ r r'. Decides-not (is_same_name (name_of r) (name_of r'))
      (same_name_decides (name_of r) (name_of r'))) rows)

  decides_directories : (ds : List DirectoryRecord) (rows : List Row)
      → Decides (are_directories_sound n port ds rows) (AreDirectoriesSound n port ds rows)
  decides_directories [] rows = (λ _. tt, λ _. refl)
  decides_directories (d ∷ ds) rows =
      Decides-and (is_directory_sound n port d rows) _
      (decides_live d.live _ _ (decides_rows (take d.count rows)))
      (decides_directories ds (drop 16 rows))

  pub sound_decides : (m : Content) → Decides (is_sound n port m) (IsSound n port m)
  unfolding is_sound
  sound_decides m =
      Decides-like (is_sound n port m)
      (λ h. record {
        file_secrets = h.0.0;
        directory_secrets = h.0.1;
        within = h.1.0.0;
        apart =
            h.1.0.1;
        counts = h.1.1.0;
        rows = h.1.1.1;
      })
      (λ s. ((s.file_secrets, s.directory_secrets), ((s.within, s.apart), (s.counts, s.rows))))
      (Decides-and (are_secrets_below n m) _
      (Decides-and _ _
      (decides_every _ _ (λ r. decides_live r.live _ _ (Decides-ltb r.secret.value n)) m.files)
      (decides_every _ _ (λ d. decides_live d.live _ _ (Decides-ltb d.secret.value n))
      m.directories))
      (Decides-and (are_files_sound m) _
      (Decides-and _ _
      (decides_every (is_within_area (length m.area)) _
      (λ r. decides_live r.live _ _ (decides_leb (r.start + r.length) (length m.area))) m.files)
      (decides_pairs are_files_apart _
      (λ r r'. decides_live r.live _ _ (clear_decides r.start r.length r')) m.files))
      (Decides-and _ _
      (decides_every has_few_rows _ (λ d. decides_leb d.count 16) m.directories)
      (decides_directories m.directories m.rows))))
