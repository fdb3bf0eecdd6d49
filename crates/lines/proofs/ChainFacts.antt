-- Where a chain of tests is refused.
use Rattle.std.proofs.Common.{◌≡◌, Bool, true, false, ◌⊎◌, Option, Some, None, Ok, Err, Result, refl, ap, inl, inr}
use Rattle.refusal.specs.Chains.{and_then, given, unless}

same_err : {A E : Type 0} {x y : E} → ◌≡◌ {A = Result A E} (Err x) (Err y) → x ≡ y
same_err e = cc

pub unless_err : {A E : Type 0} (b : Bool) (x : E) (r : Result A E) (y : E) → unless b x r ≡ Err y
    → ((b ≡ false) × (x ≡ y)) ⊎ ((b ≡ true) × (r ≡ Err y))
unless_err true x r y e = inr (refl, e)
unless_err false x r y e = inl (refl, same_err e)

pub given_err : {A B E : Type 0} (o : Option A) (x : E) (next : A → Result B E) (y : E)
    → given o x next ≡ Err y
    → ((o ≡ None) × (x ≡ y)) ⊎ ((a : A) × ((o ≡ Some a) × (next a ≡ Err y)))
given_err None x next y e = inl (refl, same_err e)
given_err (Some a) x next y e = inr (a, (refl, e))

pub and_then_err : {A B E : Type 0} (r : Result A E) (next : A → Result B E) (y : E)
    → and_then r next ≡ Err y
    → (r ≡ Err y) ⊎ ((a : A) × ((r ≡ Ok a) × (next a ≡ Err y)))
and_then_err (Err x) next y e = inl (ap Err (same_err e))
and_then_err (Ok a) next y e = inr (a, (refl, e))
