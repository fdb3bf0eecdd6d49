-- A family of commuting functions: a number n and eight functions f_0 to f_7 on the numbers below
-- n, one for each right.
use Rattle.std.specs.Prelude.{◌≡◌, ℕ, ◌^◌, ◌<◌, ◌≤◌, ◌&&◌, if◌then◌else◌, nat_lt}

-- what a value of a family type means: its number, and the function of each right
pub record Family : Type 0 where
  pub modulus : ℕ
  pub function : ℕ → ℕ → ℕ

-- what every family shows of its number and its functions
pub record IsCommuting (F : Family) : Type 0 where
  pub least : 1 ≤ F.modulus
  pub most : F.modulus ≤ 2 ^ 48
  pub within : (k v : ℕ) → k < 8 → v < F.modulus → F.function k v < F.modulus
  pub commutes : (j k v : ℕ) → j < 8 → k < 8 → v < F.modulus
      → F.function j (F.function k v) ≡ F.function k (F.function j v)

-- what a family answers when asked for f_k of v: v itself where k is no right or v is not below n
abbrev pub apply : Family → ℕ → ℕ → ℕ
apply F k v = if nat_lt k 8 && nat_lt v F.modulus then F.function k v else v
