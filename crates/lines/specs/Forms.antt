-- The forms of the words of a line: the value that a word has in each, and how it is spelled.
use Rattle.std.specs.Prelude.{ℕ, List, [], ◌∷◌, decimal, Option}
use Rattle.std.specs.Option.{option_and_then}
use Rattle.family.specs.Kinds.{kind_of, letter_of}
use Rattle.family.specs.declared.family_kind.FamilyKind.{FamilyKind}
use Rattle.text.specs.Decimal.{read_decimal}
use Rattle.text.specs.Hex.{hex_text, read_hex}
use Rattle.lines.specs.Words.{Numbered, pocket_text, read_byte, read_letter, read_pocket, read_text}
use Rattle.lines.specs.declared.pocket.Pocket.{Pocket}

-- a family's letter; a decimal; a port in twelve hexadecimal digits; a pocket; any word; a mask in
-- two hexadecimal digits
pub data Form : Type 0 where
  a_family : Form
  a_number : Form
  a_port : Form
  a_pocket : Form
  a_text : Form
  a_mask : Form

abbrev pub Value : Form → Type 0
Value a_family = FamilyKind
Value a_number = ℕ
Value a_port = List ℕ
Value a_pocket = Pocket
Value a_text = Numbered
Value a_mask = ℕ

-- a value for each form
abbrev pub Values : List Form → Type 0
Values [] = Unit {0}
Values (form ∷ more) = Value form × Values more

-- the value that the word of a number has in a form, if it fits
abbrev pub value : (form : Form) → ℕ → List ℕ → Option (Value form)
value a_family number word = option_and_then kind_of (read_letter word)
value a_number number word = read_decimal word
value a_port number word = read_hex 6 word
value a_pocket number word = read_pocket number word
value a_text number word = read_text number word
value a_mask number word = read_byte word

-- the word that has a value
abbrev pub word_of : (form : Form) → Value form → List ℕ
word_of a_family kind = letter_of kind ∷ []
word_of a_number n = decimal n
word_of a_port bytes = hex_text bytes
word_of a_pocket pocket = pocket_text pocket
word_of a_text word = word.bytes
word_of a_mask mask = hex_text (mask ∷ [])
