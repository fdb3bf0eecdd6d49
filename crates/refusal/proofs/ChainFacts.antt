-- What a chain of tests tells where it is not refused.
use Rattle.std.proofs.Common.{◌≡◌, ℕ, Bool, true, false, IfErr, Some, None, Ok, Err, Option, Result, refl, arith}
use Rattle.refusal.specs.Chains.{unless, and_then, given, refused_as}

-- equal answers answer the same
pub same_ok : {A E : Type 0} {a b : A} → ◌≡◌ {A = Result A E} (Ok a) (Ok b) → a ≡ b
same_ok q = cc

-- a refusal is no answer
pub never_ok : {A E : Type 0} {P : Type 0} (e : E) (a : A) → Err e ≡ Ok a → P
never_ok e a q = absurd (let z : ◌≡◌ {A = ℕ} 0 1 = cc in omega arith)

pub unless_ok : {A E : Type 0} (b : Bool) (e : E) (r : Result A E) (a : A) → unless b e r ≡ Ok a
    → (b ≡ true) × (r ≡ Ok a)
unless_ok true e r a q = (refl, q)
unless_ok false e r a q = never_ok e a q

pub and_then_ok : {A B E : Type 0} (r : Result A E) (next : A → Result B E) (b : B)
    → and_then r next ≡ Ok b → (a : A) × ((r ≡ Ok a) × (next a ≡ Ok b))
and_then_ok (Ok a) next b q = (a, (refl, q))
and_then_ok (Err e) next b q = never_ok e b q

pub given_ok : {A B E : Type 0} (o : Option A) (e : E) (next : A → Result B E) (b : B)
    → given o e next ≡ Ok b
    → (a : A) × ((o ≡ Some a) × (next a ≡ Ok b))
given_ok (Some a) e next b q = (a, (refl, q))
given_ok None e next b q = never_ok e b q

pub refused_as_ok : {A D E : Type 0} (told : D → E) (r : Result A D) (a : A)
    → refused_as told r ≡ Ok a → r ≡ Ok a
refused_as_ok told (Ok b) a q = cc
refused_as_ok told (Err e) a q = never_ok (told e) a q

-- what holds of each refusal of a chain holds of the one that it comes to
module _ {E : Type 0} (P : E → Type 0) where
  pub refused_unless : {A : Type 0} (b : Bool) (e : E) (r : Result A E) → P e → IfErr r P
      → IfErr (unless b e r) P
  refused_unless true e r p h = h
  refused_unless false e r p h = p

  pub refused_given : {A B : Type 0} (o : Option B) (e : E) (next : B → Result A E) → P e
      → ((b : B) → IfErr (next b) P) → IfErr (given o e next) P
  refused_given None e next p h = p
  refused_given (Some b) e next p h = h b

  pub refused_then : {A B : Type 0} (r : Result B E) (next : B → Result A E) → IfErr r P
      → ((b : B) → IfErr (next b) P) → IfErr (and_then r next) P
  refused_then (Ok b) next p h = h b
  refused_then (Err e) next p h = p

  pub refused_told : {A D : Type 0} (told : D → E) (r : Result A D) → IfErr r (λ d. P (told d))
      → IfErr (refused_as told r) P
  refused_told told (Ok a) p = tt
  refused_told told (Err d) p = p
