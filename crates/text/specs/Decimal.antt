-- A number as a word of decimal digits.
use Rattle.std.specs.Prelude.{ℕ, Bool, if◌then◌else◌, not, ◌&&◌, ◌||◌, List, length, Some, None, Option}
use Rattle.std.specs.Prelude.{◌==◌, nat_le, slice_index}
use Rattle.std.specs.Str.Parse.{digits_value}
use Rattle.std.specs.Str.{all_ascii_digits}

-- one to fifteen digits, and no zero in front but in "0"
abbrev pub is_decimal : List ℕ → Bool
is_decimal word =
    nat_le 1 (length word) && nat_le (length word) 15 && all_ascii_digits word
    && (length word == 1 || not (slice_index word 0 == 48))

-- the number that such a word writes
abbrev pub read_decimal : List ℕ → Option ℕ
read_decimal word = if is_decimal word then Some (digits_value 10 word) else None
