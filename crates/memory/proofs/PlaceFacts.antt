-- The test of a start decides its words, so the lowest start that passes is the lowest in words.
use Rattle.std.proofs.Common.{◌≡◌, ℕ, ◌+◌, ◌<◌, max, Bool, true, false, not, ◌||◌, eqb, leb, List, Some, Decides, Option, sym, refl, ◌∙◌, inl, inr, arith}
use Rattle.std.proofs.lemmas.Grind.{common_steps}
use Rattle.std.proofs.lemmas.Bool.{cond-true, cond-false, eq-eqb, ne_eqb, cases_Bool, cases_eq, leb-true, le-leb, false≢true}
use Rattle.std.proofs.lemmas.Bool.Decides.{Decides-and, not_from_Decides}
use Rattle.std.proofs.ByRecursion.{Decides-by_and}
use Rattle.std.specs.List.{list_all}
use Rattle.memory.specs.Parts.{are_apart, is_clear_of, IsInPart, IsClearOf}
use Rattle.memory.specs.Placement.{is_allowed, lowest_start, IsAllowed, IsLowestStart}
use Rattle.table.specs.Lowest.{lowest}
use Rattle.memory.specs.declared.file_record.FileRecord.{FileRecord}
use Rattle.table.proofs.LowestFacts.{some_lowest, none_lowest}

-- two parts are apart exactly when they share no byte
apart_none : (s l s' l' : ℕ) → are_apart s l s' l' ≡ true → (b : ℕ) → IsInPart s l b
    → IsInPart s' l' b → ⊥
apart_none s l s' l' e b p q = grind (arith, common_steps)

none_apart : (s l s' l' : ℕ) → ((b : ℕ) → IsInPart s l b → IsInPart s' l' b → ⊥)
    → are_apart s l s' l' ≡ true
none_apart s l s' l' h = elim (cases_Bool (are_apart s l s' l')) [
  | inl e ↦ e
  | inr e ↦
      let least : (max s s' < s + l) × (max s s' < s' + l') = grind (arith, common_steps) in
      absurd (h (max s s') (omega arith, least.0) (omega arith, least.1))
]

pub clear_decides : (s l : ℕ) (r : FileRecord) → Decides (is_clear_of s l r) (IsClearOf s l r)
clear_decides s l r = go r.live
  where
    go : (b : Bool) → Decides (not b || are_apart s l r.start r.length)
        (b ≡ true → (x : ℕ) → IsInPart s l x → IsInPart r.start r.length x → ⊥)
    go true =
        (λ e _. apart_none s l r.start r.length e, λ h. none_apart s l r.start r.length (h refl))
    go false = (λ e f. absurd (false≢true f), λ h. refl)

module _ (files : List FileRecord) (area length : ℕ) where
  allowed_decides : (s : ℕ)
      → Decides (is_allowed files area length s) (IsAllowed files area length s)
  allowed_decides s =
      Decides-and (leb (s + length) area) (list_all (is_clear_of s length) files)
      (leb-true (s + length) area, le-leb (s + length) area)
      (Decides-by_and (is_clear_of s length) (IsClearOf s length) (list_all (is_clear_of s length))
      (clear_decides s length) refl (λ _ _. refl) files)

  -- where there are bytes, the answer is the lowest start that passes
  searched : (r : Option ℕ) → r ≡ lowest_start files area length → 0 < length
      → r ≡ lowest (is_allowed files area length) (area + 1)
  searched r e h = e ∙ cond-false (eqb length 0) _ _ (ne_eqb length 0 (λ z. omega arith))

  at_zero : (r : Option ℕ) → r ≡ lowest_start files area length → length ≡ 0 → r ≡ Some 0
  at_zero r e z = e ∙ cond-true (eqb length 0) _ _ (eq-eqb length 0 z)

  refused : (t : ℕ) → is_allowed files area length t ≡ false → IsAllowed files area length t → ⊥
  refused t e w = not_from_Decides (is_allowed files area length t) (allowed_decides t) e w

  pub placed_words : (r : Option ℕ) → r ≡ lowest_start files area length
      → IsLowestStart files area length r
  placed_words r e = record {
    without_bytes = at_zero r e;
    allowed_there =
        λ s q h. (allowed_decides s).0
        (some_lowest (is_allowed files area length) (area + 1) s (sym (searched r e h) ∙ q)).1;
    nowhere_lower = λ s q t h w. elim (cases_eq length 0) [
      | inl z ↦ let first = at_zero r e z in let none : 0 ≡ s = cc in omega arith
      | inr z ↦ refused t ((some_lowest (is_allowed files area length) (area + 1) s
          (sym (searched r e (omega arith)) ∙ q)).2 t h) w
    ];
    none_at_all = λ q t w. elim (cases_eq length 0) [
      | inl z ↦ let first = at_zero r e z in let never : ◌≡◌ {A = ℕ} 0 1 = cc in omega arith
      | inr z ↦ refused t (none_lowest (is_allowed files area length) (area + 1)
          (sym (searched r e (omega arith)) ∙ q) t (omega (arith, w.0))) w
    ];
  }
