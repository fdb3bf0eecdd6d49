-- An object that is found by its number stands live in its table.
use Rattle.std.proofs.Common.{◌≡◌, ℕ, ◌+◌, ◌-◌, ◌<◌, Bool, true, false, cond, eqb, leb, length, Some, None, Option, sym, refl, ap, ◌∙◌, subst, inl, inr, arith}
use Rattle.std.specs.Option.{option_map}
use Rattle.std.specs.List.{slice_get}
use Rattle.std.proofs.lemmas.Bool.{cases_eq, cases_lt, cond-true, cond-false, le-leb, lt-leb, ne_eqb}
use Rattle.table.specs.Table.{live_or_none, live_record}
use Rattle.memory.specs.Soundness.{Content}
use Rattle.admission.specs.Objects.{target_at}
use Rattle.admission.specs.declared.target.Target.{Target}
use Rattle.admission.specs.declared.target.Target.TheVariants.{Itself, File, Directory}

-- a number is the store's, a file's or a directory's
pub by_number : (files : ℕ) (P : ℕ → Type 0) → P 0 → ((p : ℕ) → p < files → P (1 + p))
    → ((p : ℕ) → P (1 + files + p)) → (o : ℕ) → P o
by_number files P store file directory o = elim (cases_eq o 0) [
  | inl e ↦ subst P (sym e) store
  | inr some ↦ elim (cases_lt files o) [
    | inl past ↦ subst P (let e : 1 + files + (o - 1 - files) ≡ o = omega arith in e)
        (directory (o - 1 - files))
    | inr within ↦ subst P (let e : 1 + (o - 1) ≡ o = omega arith in e) (file (o - 1) (omega arith))
  ]
]

pub located_file : (m : Content) (p : ℕ) → p < length m.files
    → target_at m (1 + p) ≡ option_map (λ r. File p r) (live_record (λ r. r.live) m.files p)
located_file m p h =
    cond-false (eqb (1 + p) 0) _ _ (ne_eqb (1 + p) 0 (λ e. omega arith))
    ∙ cond-true (leb (1 + p) (length m.files)) _ _ (le-leb (1 + p) (length m.files) (omega arith))
    ∙ ap (λ q. option_map (λ r. File q r) (live_record (λ r. r.live) m.files q))
    (let e : 1 + p - 1 ≡ p = omega arith in e)

pub located_directory : (m : Content) (o p : ℕ) → o ≡ 1 + length m.files + p
    → target_at m o ≡ option_map (λ d. Directory p d) (live_record (λ d. d.live) m.directories p)
located_directory m o p e =
    cond-false (eqb o 0) _ _ (ne_eqb o 0 (λ z. omega arith))
    ∙ cond-false (leb o (length m.files)) _ _ (lt-leb o (length m.files) (omega arith))
    ∙ ap (λ q. option_map (λ d. Directory q d) (live_record (λ d. d.live) m.directories q))
    (let i : o - 1 - length m.files ≡ p = omega arith in i)

-- what is found is the live record at the place
found_some : {X Y : Type 0} (live : X → Bool) (f : X → Y) (y : Y) (o : Option X)
    → option_map f (live_or_none live o) ≡ Some y
    → (x : X) × ((o ≡ Some x) × ((live x ≡ true) × (f x ≡ y)))
found_some {X} {Y} live f y None e = absurd (let z : ◌≡◌ {A = ℕ} 0 1 = cc in omega arith)
found_some {X} {Y} live f y (Some x) e = (x, (refl, go (live x) e))
  where
    go : (b : Bool) → option_map f (cond b (Some x) None) ≡ Some y → (b ≡ true) × (f x ≡ y)
    go true e = (refl, cc)
    go false e = absurd (let z : ◌≡◌ {A = ℕ} 0 1 = cc in omega arith)

-- where an object stands that has a number
abbrev pub Stands : Content → ℕ → Target → Type 0
Stands m o Itself = o ≡ 0
Stands m o (File p r) = (o ≡ 1 + p) × ((slice_get m.files p ≡ Some r) × (r.live ≡ true))
Stands m o (Directory p d) =
    (o ≡ 1 + length m.files + p) × ((slice_get m.directories p ≡ Some d) × (d.live ≡ true))

pub located_stands : (m : Content) (o : ℕ) (target : Target) → target_at m o ≡ Some target
    → Stands m o target
located_stands m o target =
    by_number (length m.files) (λ n. target_at m n ≡ Some target → Stands m n target)
    (λ e. subst (Stands m 0) (let i : Itself ≡ target = cc in i) refl)
    (λ p h e. let at =
    found_some (λ r. r.live) (λ r. File p r) target (slice_get m.files p)
    (sym (located_file m p h) ∙ e) in
    subst (Stands m (1 + p)) at.1.1.1 (refl, (at.1.0, at.1.1.0)))
    (λ p e. let o : ℕ = 1 + length m.files + p in
    let at =
    found_some (λ d. d.live) (λ d. Directory p d) target (slice_get m.directories p)
    (sym (located_directory m o p refl) ∙ e) in
    subst (Stands m o) at.1.1.1 (refl, (at.1.0, at.1.1.0))) o
