-- Which bytes may stand in a name, as the code's table has them.
use Rattle.std.proofs.Common.{◌≡◌, ℕ, ◌<◌, Bool, true, false, List, ◌++◌, refl}
use Rattle.std.specs.Prelude.{replicate, slice_index_or}
use Rattle.family.proofs.Tables.{at_each, agree, agreed}
use Rattle.memory.specs.Names.{is_name_byte}

-- control bytes and the space; up to the slash; the slash; up to 126; and the rest
abbrev pub name_bytes : List Bool
name_bytes =
    replicate 33 false ++ replicate 14 true ++ replicate 1 false ++ replicate 79 true
    ++ replicate 129 false

-- the table is the rule, byte by byte
pub is_rule : (b : ℕ) → b < 256 → slice_index_or name_bytes b false ≡ is_name_byte b
is_rule b h =
    agreed (slice_index_or name_bytes b false) (is_name_byte b)
    (at_each (λ b. agree (slice_index_or name_bytes b false) (is_name_byte b)) 256 refl b h)
