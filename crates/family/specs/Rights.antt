-- Sets of rights. There are eight rights, 0 to 7; a byte stands for the set of those k whose bit
-- (value 2^k) is 1.
use Rattle.std.specs.Prelude.{ℕ, ◌/◌, ◌%◌, ◌^◌, Bool, false, not, ◌||◌, ◌==◌}

-- right k is in the set that the byte stands for
abbrev pub has_right : ℕ → ℕ → Bool
has_right byte k = byte / 2 ^ k % 2 == 1

-- right k is not in it
abbrev pub lacks_right : ℕ → ℕ → Bool
lacks_right byte k = not (has_right byte k)

-- the set without any right
abbrev pub no_rights : ℕ → Bool
no_rights k = false

-- the rights of either set
abbrev pub union : (ℕ → Bool) → (ℕ → Bool) → ℕ → Bool
union M M' k = M k || M' k
