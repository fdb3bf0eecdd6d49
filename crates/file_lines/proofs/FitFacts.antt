-- The next number that can follow the last one.
use Rattle.std.proofs.Common.{◌≡◌, ℕ, ◌≤◌, false, refl}
use Rattle.std.proofs.lemmas.Bool.{le-ltb}
use Rattle.family.specs.Commuting.{Family}
use Rattle.file_lines.specs.Secrets.{can_follow}

-- no number up to the last one can follow it
pub none_follows_below : (F : Family) (last s : ℕ) → s ≤ last → can_follow F last s ≡ false
none_follows_below F last s below = rw (le-ltb last s below) refl
