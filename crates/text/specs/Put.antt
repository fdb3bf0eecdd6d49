-- Bytes written into a buffer at a place: all of them, or none.
use Rattle.std.specs.Prelude.{ℕ, ◌+◌, Bool, if◌then◌else◌, List, ◌++◌, length, take, drop}
use Rattle.std.specs.Prelude.{Some, None, Option, nat_le}

-- there is room for the bytes
abbrev pub has_room : List ℕ → ℕ → List ℕ → Bool
has_room was at bytes = nat_le (at + length bytes) (length was)

-- the place behind the bytes, where there is room for them
abbrev pub end_of : List ℕ → ℕ → List ℕ → Option ℕ
end_of was at bytes = if has_room was at bytes then Some (at + length bytes) else None

-- the buffer with the bytes in it, where there is room for them, and else as it was
abbrev pub buffer_after : List ℕ → ℕ → List ℕ → List ℕ
buffer_after was at bytes =
    if has_room was at bytes then take at was ++ (bytes ++ drop (at + length bytes) was) else was
