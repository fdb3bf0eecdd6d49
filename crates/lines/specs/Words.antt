-- Single words: what each is read as, and how that is spelled.
use Rattle.std.specs.Prelude.{ℕ, ◌+◌, ◌-◌, ◌*◌, ◌/◌, ◌%◌, Bool, if◌then◌else◌, ◌&&◌, List, [], ◌∷◌, length, option_map, Some, None, Option, ◌==◌, nat_le, slice_index}
use Rattle.text.specs.Hex.{read_hex}
use Rattle.lines.specs.declared.pocket.Pocket.{Pocket}
use Rattle.lines.specs.declared.word.Word.{Word}

-- a capital A to H, for the holder, and a digit 0 to 7
abbrev pub is_pocket : List ℕ → Bool
is_pocket word =
    length word == 2 && nat_le 65 (slice_index word 0) && nat_le (slice_index word 0) 72
    && nat_le 48 (slice_index word 1) && nat_le (slice_index word 1) 55

-- the pocket that the word of a number names: eight pockets to a holder
abbrev pub read_pocket : ℕ → List ℕ → Option Pocket
read_pocket number word =
    if is_pocket word
    then Some (record {
      index = 8 * (slice_index word 0 - 65) + (slice_index word 1 - 48);
      number = number;
    })
    else None

-- the word that names a pocket
abbrev pub pocket_text : Pocket → List ℕ
pocket_text pocket = (65 + pocket.index / 8) ∷ (48 + pocket.index % 8) ∷ []

-- the byte that exactly two small hexadecimal digits stand for
abbrev pub read_byte : List ℕ → Option ℕ
read_byte word = option_map (λ bytes. slice_index bytes 0) (read_hex 1 word)

-- the letter that stands alone
abbrev pub read_letter : List ℕ → Option ℕ
read_letter word = if length word == 1 then Some (slice_index word 0) else None

-- a word that is handed on: its bytes and its number
pub record Numbered : Type 0 where
  pub bytes : List ℕ
  pub number : ℕ

abbrev pub numbered_word : Word → Numbered
numbered_word word = record { bytes = word.bytes.now; number = word.number }

-- any word of at least one byte
abbrev pub read_text : ℕ → List ℕ → Option Numbered
read_text number word =
    if nat_le 1 (length word) then Some (record { bytes = word; number = number }) else None
