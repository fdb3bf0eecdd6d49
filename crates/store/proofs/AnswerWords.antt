-- What the answers to queries say in words follows from what they are.
use Rattle.std.proofs.Common.{◌≡◌, ℕ, ◌+◌, ◌<◌, ◌≤◌, List, [], ◌∷◌, length, drop, get_or, IfOk, IfSome, Some, None, Ok, Err, Option, Result, sym, refl, ap, ◌∙◌, subst, inl, inr, if◌then◌else◌, arith}
use Rattle.std.specs.Borrow.{Bor}
use Rattle.std.proofs.lemmas.List.{length-take-le, length-drop}
use Rattle.std.proofs.lemmas.Bool.{cases_lt, lt-ltb, le-ltb}
use Rattle.std.proofs.lemmas.Option.{get_or_from_slice_get, slice_get-get_or}
use Rattle.refusal.specs.Chains.{and_then, refused_as}
use Rattle.refusal.proofs.ChainFacts.{never_ok, same_ok, and_then_ok, given_ok, refused_as_ok}
use Rattle.holder.specs.declared.capability.Capability.{Capability}
use Rattle.memory.specs.Soundness.{Content}
use Rattle.memory.specs.Wiped.{zero_row}
use Rattle.memory.specs.declared.directory_record.DirectoryRecord.{DirectoryRecord}
use Rattle.memory.specs.declared.file_record.FileRecord.{FileRecord}
use Rattle.memory.specs.declared.row.Row.{Row}
use Rattle.admission.specs.Admission.{authentic_target}
use Rattle.admission.specs.Objects.{object_number}
use Rattle.admission.specs.declared.target.Target.{Target}
use Rattle.admission.specs.declared.target.Target.TheVariants.{Itself, File, Directory}
use Rattle.rows.specs.Search.{place_of_name}
use Rattle.rows.proofs.RowFacts.{searched_found}
use Rattle.store.specs.Inside.{admitted_at, admitted_by}
use Rattle.store.specs.LookUp.{walk_end, lookup_at, lookup_by, shown_now, shown_of}
use Rattle.store.specs.Outcomes.{told_as}
use Rattle.store.specs.Parts.{part_of}
use Rattle.store.specs.Read.{bytes_in, file_in, shown_bytes}
use Rattle.store.specs.Requests.{Query, Told, the_bytes, the_size, the_name, read, size, query}
use Rattle.store.specs.Rows.{name_at, nth_place, row_at, rows_of, wanted_row}
use Rattle.store.specs.Rules.{plain, rule_of, to_read, to_see, to_size}
use Rattle.store.specs.Serve.{reply_to, told_at}
use Rattle.store.specs.State.{State}
use Rattle.store.specs.Words.{IsFile, IsFileOfLength, IsNameOfRow, LeadsOn, LeadsTo}
use Rattle.store.specs.declared.error.StoreRefusal.{StoreRefusal}
use Rattle.store.specs.declared.error.StoreRefusal.TheVariants.{NoSuchRow, RowNotAccepted}
use Rattle.store.specs.declared.row.RowAt.{RowAt}
use Rattle.store.proofs.Admitting.{admitted_located, passed}
use Rattle.store.proofs.Apart.{file_within}
use Rattle.store.proofs.LookFacts.{gate_first}
use Rattle.store.proofs.OrderFacts.{parted}
use Rattle.store.proofs.Standing.{located_stands}

-- so many elements of a list that has them
pub length_part : {A : Type 0} (xs : List A) (s l : ℕ) → s + l ≤ length xs
    → length (part_of s l xs) ≡ l
length_part xs s l h = length-take-le l (drop s xs) (omega (arith, length-drop s xs))

-- the row with a number is one of those that there are
pub nth_within : (n : ℕ) (rows : List Row) → IfSome (nth_place n rows) (λ p. p < length rows)
nth_within n rows = elim (cases_lt n (length rows)) [
  | inl within ↦ subst (λ b. IfSome (if b then Some n else None) (λ p. p < length rows))
      (sym (lt-ltb n (length rows) within)) within
  | inr past ↦ subst (λ b. IfSome (if b then Some n else None) (λ p. p < length rows))
      (sym (le-ltb n (length rows) past)) tt
]

-- a row that is wanted of an object is one of a directory
pub wanted_at : (m : Content) (wanted : List Row → Option ℕ) (place : ℕ) (t : Target) (at : RowAt)
    → wanted_row m wanted place t ≡ Ok at
    → (p : ℕ) × ((d : DirectoryRecord) × ((i : ℕ) × ((t ≡ Directory p d)
    × ((at ≡ record { directory = record { place = p; found = d }; row = i })
    × (wanted (rows_of m p d) ≡ Some i)))))
wanted_at m wanted place Itself at e = never_ok _ at e
wanted_at m wanted place (File p r) at e = never_ok _ at e
wanted_at m wanted place (Directory p d) at e =
    let found =
    given_ok (wanted (rows_of m p d)) (NoSuchRow place) (λ i. Ok (record {
      directory =
          record { place = p; found = d };
      row = i;
    })) at e in
    (p, (d, (found.0, (refl, (sym (same_ok found.1.1), found.1.0)))))

module _ (s : State) (c : Capability) where
  -- the record of the file that is admitted
  file_at : (t : Target) (r : FileRecord) → file_in t ≡ Ok r → (p : ℕ) × (t ≡ File p r)
  file_at Itself r e = absurd (cc)
  file_at (File p r') r e = (p, cc)
  file_at (Directory p d) r e = absurd (cc)

  pub read_words : (r : Result (Bor (List ℕ)) StoreRefusal)
      → told_as the_bytes (shown_bytes r) ≡ reply_to s c read → IfOk r (λ b. IsFile s c b.now)
  read_words (Err e) q = tt
  read_words (Ok b) q =
      let made =
      and_then_ok (admitted_by s (plain to_read) c) (told_at s c.rights.bits read)
      (the_bytes b.now) (sym (parted s (plain to_read) c (told_at s c.rights.bits read))
      ∙ sym q) in
      let file =
      and_then_ok (file_in made.0) (λ r. Ok (the_bytes (bytes_in s.memory r))) (the_bytes b.now)
      made.1.1 in
      let at = file_at made.0 file.0 file.1.0 in
      record {
        place = at.0;
        file = file.0;
        presented = (passed s c (plain to_read) made.0 made.1.0).object ∙ ap Some at.1;
        bytes = let e = file.1.1 in cc;
      }

  pub size_words : (r : Result ℕ StoreRefusal) → told_as the_size r ≡ reply_to s c size
      → IfOk r (IsFileOfLength s c)
  size_words (Err e) q = tt
  size_words (Ok n) q =
      let made =
      and_then_ok (admitted_by s (plain to_size) c) (told_at s c.rights.bits size) (the_size n)
      (sym (parted s (plain to_size) c (told_at s c.rights.bits size)) ∙ sym q) in
      let file = and_then_ok (file_in made.0) (λ r. Ok (the_size r.length)) (the_size n) made.1.1 in
      let at = file_at made.0 file.0 file.1.0 in
      let first = passed s c (plain to_size) made.0 made.1.0 in
      let object = first.object ∙ ap Some at.1 in
      let stands = located_stands s.memory (object_number c) (File at.0 file.0) object in
      record {
        bytes = bytes_in s.memory file.0;
        file = record { place = at.0; file = file.0; presented = object; bytes = refl };
        counted =
            cc (
              file.1.1,
              length_part s.memory.area file.0.start file.0.length
                  (file_within s first.order.sound at.0 file.0 stands.1.0 stands.1.1),
            );
      }

  -- the name of a row that is wanted
  pub name_words : (q : Query) (wanted : List Row → Option ℕ)
      (r : Result (Bor (List ℕ)) StoreRefusal)
      → ((rows : List Row) → IfSome (wanted rows) (λ p. p < length rows))
      → told_as the_name (shown_bytes r)
      ≡ and_then (admitted_by s (rule_of (query q)) c)
      (λ t. and_then (wanted_row s.memory wanted 0 t)
      (λ at. Ok (the_name (name_at s.memory at))))
      → IfOk r (λ b. IsNameOfRow s c wanted b.now)
  name_words q wanted (Err e) within eq = tt
  name_words q wanted (Ok b) within eq =
      let decide : Target → Result Told StoreRefusal =
      λ t. and_then (wanted_row s.memory wanted 0 t)
      (λ at. Ok (the_name (name_at s.memory at))) in
      let made =
      and_then_ok (admitted_by s (rule_of (query q)) c) decide (the_name b.now) (sym eq) in
      let row =
      and_then_ok (wanted_row s.memory wanted 0 made.0)
      (λ at. Ok (the_name (name_at s.memory at))) (the_name b.now) made.1.1 in
      let at = wanted_at s.memory wanted 0 made.0 row.0 row.1.0 in
      let rows : List Row = rows_of s.memory at.0 at.1.0 in
      let i : ℕ = at.1.1.0 in
      let here =
      slice_get-get_or rows i zero_row
      (subst (λ o. IfSome o (λ p. p < length rows)) at.1.1.1.1.1 (within rows)) in
      record {
        index = i;
        row = get_or rows i zero_row;
        counted =
            record {
              place = at.0;
              directory = at.1.0;
              presented =
                  (passed s c (rule_of (query q)) made.0 made.1.0).object
                  ∙ ap Some at.1.1.1.0;
              there = here;
            };
        wanted_one = at.1.1.1.1.1;
        name = named_so b.now row.0 (same_ok row.1.1) ∙ ap (name_at s.memory) at.1.1.1.1.0;
      }
    where
      named_so : (bs : List ℕ) (at : RowAt) → the_name (name_at s.memory at) ≡ the_name bs
          → bs ≡ name_at s.memory at
      named_so bs at e = cc

  -- what a name leads to, at any place of a walk
  pub found_words : (bs : List ℕ) (place : ℕ) (x : Capability) → lookup_by s c bs place ≡ Ok x
      → LeadsTo s c bs x
  found_words bs place x e =
      let gate =
      and_then_ok (admitted_at s to_see c place) (lookup_at s c.rights.bits bs place) x
      (gate_first s c place (lookup_at s c.rights.bits bs place) ∙ e) in
      let seen =
      and_then_ok (wanted_row s.memory (place_of_name bs) place gate.0)
      (λ at. shown_now s c.rights.bits (row_at s.memory at) place) x gate.1.1 in
      let at = wanted_at s.memory (place_of_name bs) place gate.0 seen.0 seen.1.0 in
      let rows : List Row = rows_of s.memory at.0 at.1.0 in
      let here = searched_found bs rows at.1.1.0 at.1.1.1.1.1 in
      let row : Row = here.0 in
      let same : row_at s.memory seen.0 ≡ row =
      ap (row_at s.memory) at.1.1.1.1.0
      ∙ get_or_from_slice_get rows at.1.1.0 row zero_row here.1.0 in
      let shows : shown_now s c.rights.bits row place ≡ Ok x =
      ap (λ row. shown_now s c.rights.bits row place) (sym same) ∙ seen.1.1 in
      let accepts =
      and_then_ok (refused_as (λ _. RowNotAccepted place)
      (authentic_target s.kept.family s.kept.port.bytes s.kept.own s.memory row.capability))
      (λ _. Ok (shown_of s c.rights.bits row)) x shows in
      record {
        index = at.1.1.0;
        row = row;
        counted =
            record {
              place = at.0;
              directory = at.1.0;
              presented =
                  admitted_located s c to_see place gate.0 gate.1.0 ∙ ap Some at.1.1.1.0;
              there =
                  here.1.0;
            };
        named = here.1.1;
        object = accepts.0;
        accepted =
            refused_as_ok (λ _. RowNotAccepted place)
            (authentic_target s.kept.family s.kept.port.bytes s.kept.own s.memory
            row.capability) accepts.0 accepts.1.0;
        shown = sym (same_ok accepts.1.1);
      }

module _ (s : State) where
  -- what names lead to
  pub end_words : (c : Capability) (names : List (List ℕ)) (place : ℕ) (x : Capability)
      → walk_end s c names place ≡ Ok x → LeadsOn s c names x
  end_words c [] place x e = same_ok e
  end_words c (bs ∷ names) place x e =
      let step =
      and_then_ok (lookup_by s c bs place) (λ found. walk_end s found names (place + 1)) x e in (
        step.0,
        (
          found_words s c bs place step.0 step.1.0,
          end_words step.0 names (place + 1) x
              step.1.1,
        ),
      )

  pub look_up_words : (c : Capability) (bs : List ℕ) (place : ℕ)
      (r : Result Capability StoreRefusal) → r ≡ lookup_by s c bs place → IfOk r (LeadsTo s c bs)
  look_up_words c bs place (Err e) q = tt
  look_up_words c bs place (Ok x) q = found_words s c bs place x (sym q)

  pub walk_words : (c : Capability) (names : List (List ℕ)) (place : ℕ)
      (r : Result Capability StoreRefusal) → r ≡ walk_end s c names place
      → IfOk r (LeadsOn s c names)
  walk_words c names place (Err e) q = tt
  walk_words c names place (Ok x) q = end_words c names place x (sym q)
