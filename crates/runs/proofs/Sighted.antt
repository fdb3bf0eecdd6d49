-- What is seen of each object by its number, and what is seen elsewhere when one object changes.
use Rattle.std.proofs.Common.{◌≡◌, ℕ, ◌+◌, ◌<◌, Bool, true, false, cond, List, length, Some, None, Option, sym, refl, ap, ◌∙◌, subst, arith}
use Rattle.std.specs.Option.{option_map}
use Rattle.std.specs.List.{slice_get}
use Rattle.std.proofs.lemmas.List.{length-set}
use Rattle.std.proofs.lemmas.Bool.{cond-false}
use Rattle.table.specs.Table.{live_or_none, live_record, is_some_live, is_live_at}
use Rattle.table.proofs.Reading.{nth-set_same, nth-set_other}
use Rattle.secret.specs.declared.secret.Secret.{Secret}
use Rattle.memory.specs.declared.file_record.FileRecord.{FileRecord}
use Rattle.memory.specs.declared.directory_record.DirectoryRecord.{DirectoryRecord}
use Rattle.memory.specs.declared.row.Row.{Row}
use Rattle.admission.specs.declared.target.Target.TheVariants.{File, Directory}
use Rattle.store.specs.Kept.{Kept}
use Rattle.store.specs.State.{State}
use Rattle.store.specs.Parts.{part_of}
use Rattle.store.specs.Read.{bytes_in}
use Rattle.runs.specs.Views.{View, the_store, a_file, a_directory, view_of, view_at}
use Rattle.runs.proofs.Replaced.{OthersStay, over, with_file_at, with_directory_at}
use Rattle.store.proofs.Standing.{by_number, located_file, located_directory}

-- what is seen of the files and of the directories, by place
abbrev file_at : State → ℕ → Option View
file_at s p = option_map (λ r. view_of s (File p r)) (live_record (λ r. r.live) s.memory.files p)

abbrev directory_at : State → ℕ → Option View
directory_at s p =
    option_map (λ d. view_of s (Directory p d)) (live_record (λ d. d.live) s.memory.directories p)

mapped-mapped : {X Y Z : Type 0} (g : Y → Z) (f : X → Y) (o : Option X)
    → option_map g (option_map f o) ≡ option_map (λ x. g (f x)) o
mapped-mapped g f None = refl
mapped-mapped g f (Some x) = refl

seen_file : (s : State) (p : ℕ) → p < length s.memory.files → view_at s (1 + p) ≡ file_at s p
seen_file s p h =
    ap (option_map (view_of s)) (located_file s.memory p h)
    ∙ mapped-mapped (view_of s) (λ r. File p r) (live_record (λ r. r.live) s.memory.files p)

seen_directory : (s : State) (o p : ℕ) → o ≡ 1 + length s.memory.files + p
    → view_at s o ≡ directory_at s p
seen_directory s o p e =
    ap (option_map (view_of s)) (located_directory s.memory o p e)
    ∙ mapped-mapped (view_of s) (λ d. Directory p d)
    (live_record (λ d. d.live) s.memory.directories p)

-- where no record is live, nothing is seen
none_seen : {X Y : Type 0} (live : X → Bool) (f : X → Y) (o : Option X)
    → is_some_live live o ≡ false → option_map f (live_or_none live o) ≡ None
none_seen live f None e = refl
none_seen live f (Some x) e = ap (option_map f) (cond-false (live x) (Some x) None e)

pub no_file : (s : State) (p : ℕ) → p < length s.memory.files
    → is_live_at (λ r. r.live) s.memory.files p ≡ false → view_at s (1 + p) ≡ None
no_file s p h free =
    seen_file s p h ∙ none_seen (λ r. r.live) (λ r. view_of s (File p r))
    (slice_get s.memory.files p) free

pub no_directory : (s : State) (p : ℕ) → is_live_at (λ d. d.live) s.memory.directories p ≡ false
    → view_at s (1 + length s.memory.files + p) ≡ None
no_directory s p free =
    seen_directory s (1 + length s.memory.files + p) p refl
    ∙ none_seen (λ d. d.live) (λ d. view_of s (Directory p d)) (slice_get s.memory.directories p)
    free

-- records that are seen alike where they are live
seen_alike : {X Y : Type 0} (live : X → Bool) (f g : X → Y) (o : Option X)
    → ((x : X) → o ≡ Some x → live x ≡ true → f x ≡ g x)
    → option_map f (live_or_none live o) ≡ option_map g (live_or_none live o)
seen_alike {X} {Y} live f g None h = refl
seen_alike {X} {Y} live f g (Some x) h = go (live x) (h x refl)
  where
    go : (b : Bool) → (b ≡ true → f x ≡ g x)
        → option_map f (cond b (Some x) None) ≡ option_map g (cond b (Some x) None)
    go true same = ap Some (same refl)
    go false same = refl

-- from one state to another, one object comes to be seen otherwise, and no other
pub record Turned (s s' : State) (o : ℕ) (new : Option View) : Type 0 where
  pub there : view_at s' o ≡ new
  pub elsewhere : (q : ℕ) → (q ≡ o → ⊥) → view_at s' q ≡ view_at s q

-- the same in other words
pub turned_as : {s s' : State} {o o' : ℕ} {new new' : Option View} → o ≡ o' → new ≡ new'
    → Turned s s' o new → Turned s s' o' new'
turned_as {s} {s'} {o} {o'} {new} {new'} number seen turned =
    subst (λ n. Turned s s' n new') number (subst (Turned s s' o) seen turned)

-- the others, kind by kind
others : (s s' : State) (o : ℕ) → length s'.memory.files ≡ length s.memory.files
    → ((0 ≡ o → ⊥) → s'.kept.own ≡ s.kept.own)
    → ((p : ℕ) → p < length s.memory.files → (1 + p ≡ o → ⊥) → file_at s' p ≡ file_at s p)
    → ((p : ℕ) → (1 + length s.memory.files + p ≡ o → ⊥) → directory_at s' p ≡ directory_at s p)
    → (q : ℕ) → (q ≡ o → ⊥) → view_at s' q ≡ view_at s q
others s s' o sizes own file directory =
    by_number (length s.memory.files) (λ q. (q ≡ o → ⊥) → view_at s' q ≡ view_at s q)
    (λ other. ap (λ own. Some (the_store own)) (own other))
    (λ p h other. seen_file s' p (omega arith) ∙ file p h other ∙ sym (seen_file s p h))
    (λ p other. let q : ℕ = 1 + length s.memory.files + p in
    seen_directory s' q p (omega arith) ∙ directory p other ∙ sym (seen_directory s q p refl))

-- the store's own secret changes
pub own_turned : (s : State) (secret : Secret)
    → Turned s (over (record s.kept { own = secret }) s.memory) 0 (Some (the_store secret))
own_turned s secret = record {
  there = refl;
  elsewhere =
      others s (over (record s.kept {
        own =
            secret;
      }) s.memory) 0 refl (λ other. absurd (other refl)) (λ p h other. refl)
      (λ p other. refl);
}

module _ (s : State) (k : Kept) (own : k.own ≡ s.kept.own) (p : ℕ) where
  -- a file record changes, and the area, with the bytes of the other live files as they were
  pub file_turned : (x : FileRecord) (area : List ℕ) → p < length s.memory.files
      → ((q : ℕ) (r : FileRecord) → (q ≡ p → ⊥) → slice_get s.memory.files q ≡ Some r
      → r.live ≡ true → part_of r.start r.length area ≡ bytes_in s.memory r)
      → Turned s (over k (with_file_at s.memory p x area)) (1 + p)
      (option_map (λ r. view_of (over k (with_file_at s.memory p x area)) (File p r))
      (live_or_none (λ r. r.live) (Some x)))
  file_turned x area h same =
      let s' : State = over k (with_file_at s.memory p x area) in
      let size = length-set s.memory.files p x in
      let seen : ℕ → Option FileRecord → Option View =
      λ q o. option_map (λ r. view_of s' (File q r)) (live_or_none (λ r. r.live) o) in
      record {
        there = seen_file s' p (omega arith) ∙ ap (seen p) (nth-set_same s.memory.files p x h);
        elsewhere = others s s' (1 + p) size (λ _. own)
            (λ q i other. let apart : q ≡ p → ⊥ = λ e. other (ap (λ n. 1 + n) e) in
            ap (seen q) (nth-set_other s.memory.files p q x apart)
            ∙ seen_alike (λ r. r.live) (λ r. view_of s' (File q r)) (λ r. view_of s (File q r))
            (slice_get s.memory.files q)
            (λ r at live. ap (a_file r.secret) (same q r apart at live)))
            (λ q other. refl);
      }

  -- a directory record changes, and rows, with those of the other live directories as they were
  pub directory_turned : (x : DirectoryRecord) (rows : List Row) → p < length s.memory.directories
      → OthersStay s.memory p rows
      → Turned s (over k (with_directory_at s.memory p x rows)) (1 + length s.memory.files + p)
      (option_map (λ d. view_of (over k (with_directory_at s.memory p x rows)) (Directory p d))
      (live_or_none (λ d. d.live) (Some x)))
  directory_turned x rows h same =
      let s' : State = over k (with_directory_at s.memory p x rows) in
      let seen : ℕ → Option DirectoryRecord → Option View =
      λ q o. option_map (λ d. view_of s' (Directory q d)) (live_or_none (λ d. d.live) o) in
      record {
        there =
            seen_directory s' (1 + length s.memory.files + p) p refl
            ∙ ap (seen p) (nth-set_same s.memory.directories p x h);
        elsewhere = others s s' (1 + length s.memory.files + p) refl (λ _. own) (λ q i other. refl)
            (λ q other. let apart : q ≡ p → ⊥ =
            λ e. other (ap (λ n. 1 + length s.memory.files + n) e) in
            ap (seen q) (nth-set_other s.memory.directories p q x apart)
            ∙ seen_alike (λ d. d.live) (λ d. view_of s' (Directory q d))
            (λ d. view_of s (Directory q d)) (slice_get s.memory.directories q)
            (λ d at live. ap (a_directory d.secret) (same q d apart at live)));
      }
