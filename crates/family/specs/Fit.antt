-- Fitness of a secret: its 256 thinned numbers, one for each set of rights, all differ.
-- So nobody can pass one set of rights off as another, and each function moves the secret.
use Rattle.std.specs.Prelude.{◌≡◌, ℕ, ◌<◌, ◌≢◌}
use Rattle.family.specs.Commuting.{Family}
use Rattle.family.specs.Rights.{has_right}
use Rattle.family.specs.Thin.{thin}

pub record IsFit (F : Family) (s : ℕ) : Type 0 where
  pub below : s < F.modulus
  pub apart : (a b : ℕ) → a < 256 → b < 256
      → thin F.function s (has_right a) ≡ thin F.function s (has_right b)
      → a ≡ b

-- what holds of fitness in every family: a number that some function leaves as it is, is not fit
pub record FitLaws (F : Family) : Type 0 where
  pub moved : (s k : ℕ) → k < 8 → IsFit F s → F.function k s ≢ s
