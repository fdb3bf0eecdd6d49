-- The parts of live files: within the area and apart, from each other and from a new file.
use Rattle.std.proofs.Common.{◌≡◌, ℕ, zero, suc, ◌+◌, ◌<◌, ◌≤◌, true, List, [], ◌∷◌, length, Some, sym, refl, subst, inl, inr, arith}
use Rattle.std.specs.List.{AllByRecursion, slice_get}
use Rattle.std.proofs.ByRecursion.{All-from_get_or}
use Rattle.std.proofs.lemmas.Bool.{cases_eq, cases_order}
use Rattle.memory.specs.Parts.{IsInPart, IsClearOf}
use Rattle.memory.specs.Placement.{lowest_start, IsAllowed}
use Rattle.memory.specs.Records.{zero_file}
use Rattle.memory.specs.Words.{EachTwo, IsSound}
use Rattle.memory.specs.declared.file_record.FileRecord.{FileRecord}
use Rattle.memory.proofs.PlaceFacts.{placed_words}
use Rattle.memory.proofs.SoundFacts.{sound_decides}
use Rattle.store.specs.State.{State, is_sound_for}

-- what holds of each element holds of the one at a place, and what holds of each two holds of those
-- at two places
pub all_nth : {X : Type 0} (P : X → Type 0) (xs : List X) (i : ℕ) (x : X) → AllByRecursion P xs
    → slice_get xs i ≡ Some x → P x
all_nth P [] i x h e = absurd (let z : ◌≡◌ {A = ℕ} 0 1 = cc in omega arith)
all_nth P (y ∷ xs) zero x h e = subst P (let s : y ≡ x = cc in s) h.0
all_nth P (y ∷ xs) (suc i) x h e = all_nth P xs i x h.1 e

two_nth : {X : Type 0} (Q : X → X → Type 0) (xs : List X) (i j : ℕ) (x y : X) → EachTwo Q xs → i < j
    → slice_get xs i ≡ Some x → slice_get xs j ≡ Some y → Q x y
two_nth Q [] i j x y h l e f = absurd (let z : ◌≡◌ {A = ℕ} 0 1 = cc in omega arith)
two_nth Q (w ∷ xs) i zero x y h l e f = absurd (omega arith)
two_nth Q (w ∷ xs) zero (suc j) x y h l e f =
    subst (λ v. Q v y) (let s : w ≡ x = cc in s) (all_nth (Q w) xs j y h.0 f)
two_nth Q (w ∷ xs) (suc i) (suc j) x y h l e f = two_nth Q xs i j x y h.1 (omega arith) e f

-- two files share no byte, if both are live
abbrev pub FilesApart : FileRecord → FileRecord → Type 0
FilesApart r r' = r.live ≡ true → IsClearOf r.start r.length r'

module _ (s : State) (sound : is_sound_for s ≡ true) where
  -- soundness in words
  pub whole : IsSound s.kept.family.modulus s.kept.port.bytes s.memory
  whole = (sound_decides s.kept.family.modulus s.kept.port.bytes s.memory).0 sound

  -- a live file of sound memory lies within the area
  pub file_within : (p : ℕ) (r : FileRecord) → slice_get s.memory.files p ≡ Some r → r.live ≡ true
      → r.start + r.length ≤ length s.memory.area
  file_within p r at live =
      all_nth (λ r. r.live ≡ true → r.start + r.length ≤ length s.memory.area) s.memory.files p r
      whole.within at live

  -- two live files of sound memory share no byte
  pub files_apart_lem : (p q : ℕ) (r r2 : FileRecord) → (q ≡ p → ⊥)
      → slice_get s.memory.files p ≡ Some r → r.live ≡ true → slice_get s.memory.files q ≡ Some r2
      → r2.live ≡ true
      → (b : ℕ) → IsInPart r.start r.length b → IsInPart r2.start r2.length b → ⊥
  files_apart_lem p q r r2 other at live at' live' b here there =
      elim (cases_order p q) [
        | inl e ↦ other (sym e)
        | inr ordered ↦ elim ordered [
          | inl before ↦ two_nth FilesApart s.memory.files p q r r2 whole.apart before at at' live
              live' b here there
          | inr after ↦ two_nth FilesApart s.memory.files q p r2 r whole.apart after at' at live'
              live b there here
        ]
      ]

-- a new file, with bytes or without, lies within the area and clear of the live ones
pub placed_allowed : (files : List FileRecord) (area len s : ℕ)
    → lowest_start files area len ≡ Some s → IsAllowed files area len s
placed_allowed files area len s e =
    let words = placed_words files area len (lowest_start files area len) refl in
    elim (cases_eq len 0) [
      | inl z ↦ let first = words.without_bytes z in let none : 0 ≡ s = cc in (
        omega arith,
        All-from_get_or (IsClearOf s len) files zero_file
            (λ i h live b here there. omega arith),
      )
      | inr some ↦ words.allowed_there s e (omega arith)
    ]
