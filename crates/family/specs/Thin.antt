-- Thinning: a number after f_k for each right k of a set, smallest k first.
use Rattle.std.specs.Prelude.{◌≡◌, ℕ, zero, suc, ◌<◌, Bool, true, false, if◌then◌else◌}
use Rattle.family.specs.Commuting.{Family}
use Rattle.family.specs.Rights.{no_rights, union}

-- f_k where k is in the set, and nothing where it is not
abbrev pub thin_once : (ℕ → ℕ → ℕ) → (ℕ → Bool) → ℕ → ℕ → ℕ
thin_once f M k v = if M k then f k v else v

-- only the rights below k
unfoldable pub thin_below : (ℕ → ℕ → ℕ) → (ℕ → Bool) → ℕ → ℕ → ℕ
thin_below f M zero v = v
thin_below f M (suc k) v = thin_once f M k (thin_below f M k v)

-- v thinned by the set M
abbrev pub thin : (ℕ → ℕ → ℕ) → ℕ → (ℕ → Bool) → ℕ
thin f v M = thin_below f M 8 v

-- no right is in both sets
abbrev pub AreDisjoint : (ℕ → Bool) → (ℕ → Bool) → Type 0
AreDisjoint M M' = (k : ℕ) → k < 8 → M k ≡ true → M' k ≡ false

-- what holds of thinning in every family
pub record ThinLaws (F : Family) : Type 0 where
  pub stays_below : (v : ℕ) (M : ℕ → Bool) → v < F.modulus → thin F.function v M < F.modulus
  pub by_none : (v : ℕ) → thin F.function v no_rights ≡ v
  pub by_both : (v : ℕ) (M M' : ℕ → Bool) → v < F.modulus → AreDisjoint M M'
      → thin F.function (thin F.function v M) M' ≡ thin F.function v (union M M')
  pub either_order : (v : ℕ) (M M' : ℕ → Bool) → v < F.modulus
      → thin F.function (thin F.function v M) M' ≡ thin F.function (thin F.function v M') M
