-- The sixteen bytes of a capability: port 6, object 3, rights 1, check 6.
use Rattle.std.specs.Prelude.{ℕ, if◌then◌else◌, List, ◌∷◌, ◌++◌, length, take, drop, Ok, Err, Result, ◌==◌, slice_index}
use Rattle.holder.specs.Bytes.{number, bytes_of}
use Rattle.holder.specs.Checks.{check_of, object_of}
use Rattle.holder.specs.declared.capability.Capability.{Capability}
use Rattle.holder.specs.declared.error.HolderRefusal.{HolderRefusal}
use Rattle.holder.specs.declared.error.HolderRefusal.TheVariants.{WrongLength}

-- a capability, written
abbrev pub capability_bytes : Capability → List ℕ
capability_bytes c =
    c.port.bytes ++ (bytes_of 3 c.object.value ++ (c.rights.bits ∷ bytes_of 6 c.check.value))

-- the parts, each from its place
abbrev pub capability_of : List ℕ → Capability
capability_of bs = record {
  port = record { bytes = take 6 bs };
  object = object_of (number (take 3 (drop 6 bs)));
  rights = record { bits = slice_index bs 9 };
  check = check_of (number (take 6 (drop 10 bs)));
}

-- bytes, read as a capability: any sixteen, and no other count
abbrev pub read_capability : List ℕ → Result Capability HolderRefusal
read_capability bs = if length bs == 16 then Ok (capability_of bs) else Err WrongLength
