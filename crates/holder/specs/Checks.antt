-- Objects and checks as numbers.
use Rattle.std.specs.Prelude.{ℕ, ◌%◌, ◌^◌}
use Rattle.std.proofs.Common.{mod-lt, pow_pos}
use Rattle.holder.specs.declared.check.Check.{Check}
use Rattle.holder.specs.declared.object.Object.{Object}

-- the check of a number, which is its lowest 48 bits
abbrev pub check_of : ℕ → Check
check_of v = record { value = v % 2 ^ 48; narrow = mod-lt v (pow_pos 48) }

-- the object of a number, which is its lowest 24 bits
abbrev pub object_of : ℕ → Object
object_of n = record { value = n % 2 ^ 24; narrow = mod-lt n (pow_pos 24) }
