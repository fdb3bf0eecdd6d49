-- The owner capability of an object: every right, and the object's secret itself as the check.
use Rattle.std.specs.Prelude.{ℕ, ◌^◌, if◌then◌else◌, Some, None, Option, nat_lt}
use Rattle.holder.specs.Checks.{check_of}
use Rattle.holder.specs.declared.capability.Capability.{Capability}
use Rattle.holder.specs.declared.object.Object.{Object}
use Rattle.holder.specs.declared.capability.Port.{Port}

-- the owner capability of an object from its secret s
abbrev pub owner_capability : Port → Object → ℕ → Capability
owner_capability p o s = record {
  port = p;
  object = o;
  rights = record { bits = 255 };
  check = check_of s;
}

-- the owner capability from the secret s, which there is where s fits the 48 bits of a check
abbrev pub owner_of : Port → Object → ℕ → Option Capability
owner_of p o s = if nat_lt s (2 ^ 48) then Some (owner_capability p o s) else None
