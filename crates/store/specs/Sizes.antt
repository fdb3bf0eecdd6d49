-- Sizes of memory: within the limits at the opening, and the same ever after.
use Rattle.std.specs.Prelude.{ℕ, ◌*◌, Bool, ◌&&◌, List, length, ◌==◌, nat_le}
use Rattle.memory.specs.Soundness.{Content}
use Rattle.store.specs.State.{State}

-- 1 to 256 file records, 1 to 64 directory records, sixteen rows for each directory, and at most
-- 1,048,576 bytes
abbrev pub are_sizes_lawful : Content → Bool
are_sizes_lawful m =
    (nat_le 1 (length m.files) && nat_le (length m.files) 256)
    && ((nat_le 1 (length m.directories) && nat_le (length m.directories) 64)
    && (length m.rows == 16 * length m.directories && nat_le (length m.area) 1048576))

-- as many of each as at the opening
abbrev pub sizes_agree : State → Bool
sizes_agree s =
    (length s.memory.files == s.kept.files)
    && (length s.memory.directories == s.kept.directories
    && (length s.memory.rows == 16 * s.kept.directories && length s.memory.area == s.kept.area))

-- a scratch has 256 numbers
abbrev pub is_full_scratch : List ℕ → Bool
is_full_scratch scratch = length scratch == 256
