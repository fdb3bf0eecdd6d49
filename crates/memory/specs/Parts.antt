-- Parts of the area: so many bytes from a start on.
use Rattle.std.specs.Prelude.{◌≡◌, ℕ, ◌+◌, ◌<◌, ◌≤◌, Bool, true, not, ◌||◌, ◌==◌, nat_le}
use Rattle.memory.specs.declared.file_record.FileRecord.{FileRecord}

-- two parts share no byte: one ends where the other begins or before, or one has none
abbrev pub are_apart : ℕ → ℕ → ℕ → ℕ → Bool
are_apart start length start' length' =
    nat_le (start + length) start'
    || (nat_le (start' + length') start || (length == 0 || length' == 0))

-- a part shares no byte with a file, or there is no file
abbrev pub is_clear_of : ℕ → ℕ → FileRecord → Bool
is_clear_of start length r = not r.live || are_apart start length r.start r.length

-- a byte lies in a part
abbrev pub IsInPart : ℕ → ℕ → ℕ → Type 0
IsInPart start length b = (start ≤ b) × (b < start + length)

-- no byte of a part lies in a live file
abbrev pub IsClearOf : ℕ → ℕ → FileRecord → Type 0
IsClearOf start length r =
    r.live ≡ true → (b : ℕ) → IsInPart start length b → IsInPart r.start r.length b → ⊥
