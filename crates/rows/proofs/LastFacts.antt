-- The row entered last that holds a capability for an object: found from behind, and what its
-- definition comes to in words.
use Rattle.std.proofs.Common.{◌≡◌, ℕ, zero, suc, ◌<◌, Bool, true, false, cond, eqb, List, [], ◌∷◌, ◌++◌, length, IfSome, Some, None, Option, refl, sym, ap, subst, ◌∙◌, arith}
use Rattle.std.proofs.lemmas.Bool.{cond-true, cond-false, eqb-true, eq-eqb, ne_eqb, false≢true}
use Rattle.rows.specs.Search.{row_object, behind_or_here, place_of_object, HoldsAt, IsLastPlace}
use Rattle.memory.specs.declared.row.Row.{Row}

module _ (o : ℕ) where
  -- one more row behind the others is the last, or the last of the others is
  last_behind : (rows : List Row) (row : Row)
      → place_of_object o (rows ++ row ∷ [])
      ≡ cond (eqb (row_object row) o) (Some (length rows)) (place_of_object o rows)
  last_behind [] row = refl
  last_behind (x ∷ rows) row =
      ap (λ r. behind_or_here r (eqb (row_object x) o)) (last_behind rows row)
      ∙ cases (eqb (row_object row) o)
    where
      cases : (b : Bool)
          → behind_or_here (cond b (Some (length rows)) (place_of_object o rows))
          (eqb (row_object x) o)
          ≡ cond b (Some (suc (length rows)))
          (behind_or_here (place_of_object o rows) (eqb (row_object x) o))
      cases true = refl
      cases false = refl

  -- rows with a last one and the earlier ones
  module _ (rows earlier : List Row) (row : Row) (e : rows ≡ earlier ++ row ∷ []) where
    pub last_here : row_object row ≡ o → place_of_object o rows ≡ Some (length earlier)
    last_here h =
        ap (place_of_object o) e ∙ last_behind earlier row
        ∙ cond-true (eqb (row_object row) o) _ _ (eq-eqb (row_object row) o h)

    pub last_earlier : (row_object row ≡ o → ⊥) → place_of_object o rows ≡ place_of_object o earlier
    last_earlier h =
        ap (place_of_object o) e ∙ last_behind earlier row
        ∙ cond-false (eqb (row_object row) o) _ _ (ne_eqb (row_object row) o h)

  -- a row that holds one stands one place further on behind another row
  further : (x : Row) (rows : List Row) (p : ℕ) → HoldsAt o rows p → HoldsAt o (x ∷ rows) (suc p)
  further x rows p h = record { row = h.row; there = h.there; object = h.object }

  nearer : (x : Row) (rows : List Row) (p : ℕ) → HoldsAt o (x ∷ rows) (suc p) → HoldsAt o rows p
  nearer x rows p h = record { row = h.row; there = h.there; object = h.object }

  -- the first row does not hold one
  not_first : (x : Row) (rows : List Row) → eqb (row_object x) o ≡ false → HoldsAt o (x ∷ rows) 0
      → ⊥
  not_first x rows e h =
      let same : Some x ≡ Some h.row = h.there in
      let there : x ≡ h.row = cc in
      false≢true (sym e ∙ eq-eqb (row_object x) o (ap row_object there ∙ h.object))

  -- no rows hold any
  none_there : (q : ℕ) → HoldsAt o [] q → ⊥
  none_there q h = let never : None ≡ Some h.row = h.there in absurd (cc)

  -- what holds of the rows behind one, with that one before them
  later_words : (x : Row) (rows : List Row) (r : Option ℕ) → IsLastPlace o rows r → (here : Bool)
      → eqb (row_object x) o ≡ here → IsLastPlace o (x ∷ rows) (behind_or_here r here)
  later_words x rows (Some p) w here e = record {
    held_there = λ q f. let same : Some (suc p) ≡ Some q = f in let at : suc p ≡ q = cc in
        subst (HoldsAt o (x ∷ rows)) at (further x rows p (w.held_there p refl));
    none_later = λ q f. let same : Some (suc p) ≡ Some q = f in let at : suc p ≡ q = cc in
        behind q at;
    none_at_all = λ f. let never : Some (suc p) ≡ None = f in absurd (cc);
  }
    where
      behind : (q : ℕ) → suc p ≡ q → (t : ℕ) → q < t → HoldsAt o (x ∷ rows) t → ⊥
      behind q at zero l h = omega arith
      behind q at (suc t) l h = w.none_later p refl t (omega arith) (nearer x rows t h)
  later_words x rows None w true e = record {
    held_there = λ q f. let same : Some 0 ≡ Some q = f in let at : 0 ≡ q = cc in
        subst (HoldsAt o (x ∷ rows)) at (record {
          row = x;
          there = refl;
          object =
              eqb-true (row_object x) o e;
        });
    none_later = λ q f. behind q;
    none_at_all = λ f. let never : Some 0 ≡ None = f in absurd (cc);
  }
    where
      behind : (q t : ℕ) → q < t → HoldsAt o (x ∷ rows) t → ⊥
      behind q zero l h = omega arith
      behind q (suc t) l h = w.none_at_all refl t (nearer x rows t h)
  later_words x rows None w false e = record {
    held_there = λ q f. let never : None ≡ Some q = f in absurd (cc);
    none_later = λ q f. let never : None ≡ Some q = f in absurd (cc);
    none_at_all = λ f. nowhere;
  }
    where
      nowhere : (t : ℕ) → HoldsAt o (x ∷ rows) t → ⊥
      nowhere zero h = not_first x rows e h
      nowhere (suc t) h = w.none_at_all refl t (nearer x rows t h)

  -- the definition keeps its words
  pub last_words : (rows : List Row) → IsLastPlace o rows (place_of_object o rows)
  last_words [] = record {
    held_there = λ q f. let never : None ≡ Some q = f in absurd (cc);
    none_later = λ q f. let never : None ≡ Some q = f in absurd (cc);
    none_at_all = λ f. none_there;
  }
  last_words (x ∷ rows) =
      later_words x rows (place_of_object o rows) (last_words rows) (eqb (row_object x) o) refl

  -- the place is one of a row
  pub last_within : (rows : List Row) → IfSome (place_of_object o rows) (λ p. p < length rows)
  last_within [] = tt
  last_within (x ∷ rows) = by (place_of_object o rows) (last_within rows) (eqb (row_object x) o)
    where
      by : (r : Option ℕ) → IfSome r (λ p. p < length rows) → (here : Bool)
          → IfSome (behind_or_here r here) (λ p. p < suc (length rows))
      by (Some p) h here = omega arith
      by None h true = omega arith
      by None h false = tt
