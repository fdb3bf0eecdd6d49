-- Which checks a secret accepts.
use Rattle.std.specs.Prelude.{ℕ, Bool, ◌&&◌, ◌==◌, nat_lt}
use Rattle.family.specs.Commuting.{Family, apply}
use Rattle.family.specs.Rights.{lacks_right}
use Rattle.family.specs.Thin.{thin}

-- v can be a check in a family with modulus n: a check at or above n is turned away first
abbrev pub is_plausible : ℕ → ℕ → Bool
is_plausible n v = nat_lt v n

-- v is plausible, and s thinned by the rights of the set M
abbrev pub is_match : Family → ℕ → (ℕ → Bool) → ℕ → Bool
is_match F s M v = is_plausible F.modulus v && v == thin (apply F) s M

-- the secret s accepts the check v for these rights: v is plausible, and s thinned by the missing
-- rights
abbrev pub is_accepted : Family → ℕ → ℕ → ℕ → Bool
is_accepted F s rights v = is_match F s (lacks_right rights) v
