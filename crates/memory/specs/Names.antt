-- Names of rows.
use Rattle.std.specs.Prelude.{◌≡◌, ℕ, Bool, if◌then◌else◌, not, ◌&&◌, List, length, take, Some, None, Option, ◌==◌, nat_le}
use Rattle.std.specs.List.{list_all}
use Rattle.std.specs.Str.{bytes_eq}
use Rattle.memory.specs.declared.row.Row.{Row}

-- a byte from 33 to 126, and not the slash
abbrev pub is_name_byte : ℕ → Bool
is_name_byte b = nat_le 33 b && (nat_le b 126 && not (b == 47))

-- 1 to 24 such bytes
abbrev pub is_lawful_name : List ℕ → Bool
is_lawful_name bs = nat_le 1 (length bs) && (nat_le (length bs) 24 && list_all is_name_byte bs)

-- the bytes of a name, if they are a lawful one
abbrev pub checked_name : List ℕ → Option (List ℕ)
checked_name bs = if is_lawful_name bs then Some bs else None

-- two names are the same: byte for byte
unfoldable pub is_same_name : List ℕ → List ℕ → Bool
is_same_name a b = bytes_eq a b

-- the same in words: they are equal
abbrev pub IsSameName : List ℕ → List ℕ → Type 0
IsSameName a b = a ≡ b

-- the name that a row holds, as many of its bytes as it says
abbrev pub name_of : Row → List ℕ
name_of row = take row.length row.name
