-- A rule over a finite range, as one test that is computed over the whole range.
use Rattle.std.proofs.Common.{◌≡◌, ℕ, zero, suc, ◌<◌, Bool, true, false, not, ◌&&◌, sym, refl}
use Rattle.std.proofs.lemmas.Bool.Decides.{Decides-below_and}

-- the test passes at each number below n
abbrev pub all_below : (ℕ → Bool) → ℕ → Bool
all_below p zero = true
all_below p (suc n) = p n && all_below p n

pub at_each : (p : ℕ → Bool) (n : ℕ) → all_below p n ≡ true → (k : ℕ) → k < n → p k ≡ true
at_each p n e =
    (Decides-below_and p (λ k. p k ≡ true) (all_below p) (λ k. (λ x. x, λ x. x)) refl (λ _. refl)
    n).0 e

-- two answers agree
abbrev pub agree : Bool → Bool → Bool
agree true b = b
agree false b = not b

pub agreed : (a b : Bool) → agree a b ≡ true → a ≡ b
agreed true true e = refl
agreed true false e = sym e
agreed false true e = e
agreed false false e = refl
