-- The answers of the single calls, told by the call for any request.
use Rattle.std.proofs.Common.{◌≡◌, ℕ, List, Ok, Err, Result, refl, ap, ◌∙◌}
use Rattle.std.specs.Result.{result_map_both, MatchResult, IsOkAnd}
use Rattle.memory.specs.Soundness.{Content}
use Rattle.store.specs.Outcomes.{Outcome, outcome, told_as}
use Rattle.store.specs.Requests.{Told}
use Rattle.store.specs.State.{State}
use Rattle.store.specs.Values.{told_in}
use Rattle.store.specs.declared.error.StoreRefusal.{StoreRefusal}
use Rattle.store.specs.declared.request.Answer.{Answer}

-- what `map` gives, where the function that it takes makes an answer
mapped : {A B E : Type 0} (post : A → B → Type 0) (make : A → B) (r : Result A E) (out : Result B E)
    → ((x : A) (y : B) → post x y → y ≡ make x)
    → MatchResult r (λ x. IsOkAnd out (post x)) (λ e. out ≡ Err e)
    → out ≡ result_map_both make (λ e. e) r
mapped post make (Ok x) (Ok y) means h = ap Ok (means x y h)
mapped post make (Ok x) (Err e) means h = absurd h
mapped post make (Err e) out means h = h

-- an answer made from a call's own by `map` tells what that tells
pub told_alike : {A : Type 0} (m : Content) (tell : A → Told) (make : A → Answer)
    (post : A → Answer → Type 0) (r : Result A StoreRefusal) (a : Result Answer StoreRefusal)
    → ((x : A) → told_in m (make x) ≡ tell x) → ((x : A) (y : Answer) → post x y → y ≡ make x)
    → MatchResult r (λ x. IsOkAnd a (post x)) (λ e. a ≡ Err e)
    → told_as (told_in m) a ≡ told_as tell r
told_alike {A} m tell make post r a same means h =
    ap (told_as (told_in m)) (mapped post make r a means h) ∙ each r
  where
    each : (r : Result A StoreRefusal)
        → told_as (told_in m) (result_map_both make (λ e. e) r) ≡ told_as tell r
    each (Ok x) = ap Ok (same x)
    each (Err e) = refl

-- and so does the whole outcome, where the call has no scratch of its own too
pub served_alike : {A : Type 0} (m : Content) (tell : A → Told) (make : A → Answer)
    (post : A → Answer → Type 0) (r : Result A StoreRefusal) (a : Result Answer StoreRefusal)
    (s : State) (scratch : List ℕ) (o : Outcome)
    → ((x : A) → told_in m (make x) ≡ tell x) → ((x : A) (y : Answer) → post x y → y ≡ make x)
    → MatchResult r (λ x. IsOkAnd a (post x)) (λ e. a ≡ Err e)
    → outcome (told_as tell r) s scratch ≡ o
    → outcome (told_as (told_in m) a) s scratch ≡ o
served_alike m tell make post r a s scratch o same means h q =
    ap (λ x. outcome x s scratch) (told_alike m tell make post r a same means h) ∙ q
