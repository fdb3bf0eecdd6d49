-- The lowest number below a limit that passes a test.
use Rattle.std.specs.Prelude.{◌≡◌, ℕ, zero, suc, ◌<◌, Bool, true, false, if◌then◌else◌, Some, None, Option, MatchOption}

-- what was found already, or else i where it passes
abbrev pub or_here : Option ℕ → Bool → ℕ → Option ℕ
or_here (Some j) passes i = Some j
or_here None passes i = if passes then Some i else None

-- the lowest number below n that passes
unfoldable pub lowest : (ℕ → Bool) → ℕ → Option ℕ
lowest test zero = None
lowest test (suc n) = or_here (lowest test n) (test n) n

-- no number below n passes
abbrev pub NoneBelow : (ℕ → Bool) → ℕ → Type 0
NoneBelow test n = (i : ℕ) → i < n → test i ≡ false

-- r is a number below n that passes, with none below it that does; or nothing, and no number below
-- n passes
abbrev pub IsLowest : (ℕ → Bool) → ℕ → Option ℕ → Type 0
IsLowest test n r =
    MatchOption r (NoneBelow test n) (λ i. (i < n) × (test i ≡ true) × NoneBelow test i)
