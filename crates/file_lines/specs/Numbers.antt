-- The words behind the name of the program.
use Rattle.std.specs.Prelude.{ℕ, List, [], ◌∷◌, None, Some, Option, String, string_bytes}
use Rattle.text.specs.Decimal.{read_decimal}
use Rattle.file_lines.specs.declared.numbers.Numbers.{Numbers}

abbrev pub both_numbers : Option ℕ → Option ℕ → Option Numbers
both_numbers (Some modulus) (Some secret) = Some (record { modulus = modulus; secret = secret })
both_numbers (Some modulus) None = None
both_numbers None secret = None

-- MODULUS and SECRET, in this order, each a decimal
abbrev pub numbers_in : {Z : Type 0} → List (String Z) → Option Numbers
numbers_in (name ∷ (modulus ∷ (secret ∷ []))) =
    both_numbers (read_decimal (string_bytes modulus)) (read_decimal (string_bytes secret))
numbers_in other = None
