-- Chains of tests, each with its refusal.
use Rattle.std.specs.Prelude.{Bool, true, false, Some, None, Ok, Err, Option, Result}

-- refused with e unless the test holds; else what follows
abbrev pub unless : {A E : Type 0} → Bool → E → Result A E → Result A E
unless true e r = r
unless false e r = Err e

-- what follows from an answer, if there was one
abbrev pub and_then : {A B E : Type 0} → Result A E → (A → Result B E) → Result B E
and_then (Ok a) next = next a
and_then (Err e) next = Err e

-- refused with e where there is none; else what follows from it
abbrev pub given : {A B E : Type 0} → Option A → E → (A → Result B E) → Result B E
given None e next = Err e
given (Some a) e next = next a

-- the same answer, with a refusal told in other words
abbrev pub refused_as : {A D E : Type 0} → (D → E) → Result A D → Result A E
refused_as told (Ok a) = Ok a
refused_as told (Err e) = Err (told e)
