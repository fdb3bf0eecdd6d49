-- Bytes as hexadecimal digits in small letters.
use Rattle.std.specs.Prelude.{ℕ, ◌+◌, ◌-◌, ◌*◌, ◌/◌, ◌%◌, Bool, if◌then◌else◌, ◌&&◌, ◌||◌, List, [], ◌∷◌}
use Rattle.std.specs.Prelude.{length, Some, None, Option, ◌==◌, nat_le, nat_lt}
use Rattle.std.specs.List.{list_all}

-- the digit of a number below 16: 0 to 9, then a to f
abbrev pub hex_digit : ℕ → ℕ
hex_digit n = if nat_lt n 10 then 48 + n else 87 + n

-- two digits for each byte, the high one first
abbrev pub hex_text : List ℕ → List ℕ
hex_text [] = []
hex_text (b ∷ bs) = hex_digit (b / 16) ∷ hex_digit (b % 16) ∷ hex_text bs

-- a byte is a digit, 0 to 9 or a to f
abbrev pub is_hex_digit : ℕ → Bool
is_hex_digit c = (nat_le 48 c && nat_le c 57) || (nat_le 97 c && nat_le c 102)

-- the number that a digit stands for
abbrev pub value_of_digit : ℕ → ℕ
value_of_digit c = if nat_le c 57 then c - 48 else c - 87

-- a byte for each two digits, of which the first is the high one
abbrev pub hex_bytes : List ℕ → List ℕ
hex_bytes [] = []
hex_bytes (high ∷ []) = []
hex_bytes (high ∷ low ∷ rest) = (16 * value_of_digit high + value_of_digit low) ∷ hex_bytes rest

-- the n bytes of a word of exactly 2 * n digits
abbrev pub read_hex : ℕ → List ℕ → Option (List ℕ)
read_hex n word =
    if length word == 2 * n && list_all is_hex_digit word then Some (hex_bytes word) else None
