-- The numbers that become secrets, one after the other.
use Rattle.std.specs.Prelude.{ℕ, ◌-◌, ◌^◌, Bool, ◌&&◌, None, Some, Option, nat_lt}
use Rattle.family.specs.Commuting.{Family}
use Rattle.secret.specs.Fitness.{is_fit}
use Rattle.table.specs.Lowest.{lowest}

-- a number that can follow the last one: it is greater, and fit
abbrev pub can_follow : Family → ℕ → ℕ → Bool
can_follow F last s = nat_lt last s && is_fit F s

-- the lowest number that can follow; none at or above the modulus can
abbrev pub next_fit : Family → ℕ → Option ℕ
next_fit F last = lowest (can_follow F last) F.modulus

-- where no number can follow, the greatest of 64 bits, which no store takes
abbrev pub or_greatest : Option ℕ → ℕ
or_greatest (Some s) = s
or_greatest None = 2 ^ 64 - 1

-- the next number
abbrev pub next_number : Family → ℕ → ℕ
next_number F last = or_greatest (next_fit F last)
