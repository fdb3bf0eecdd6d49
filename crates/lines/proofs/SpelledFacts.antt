-- A word that fits a form is what its value is spelled as.
use Rattle.std.proofs.Common.{◌≡◌, ℕ, ◌+◌, ◌-◌, ◌*◌, ◌/◌, ◌%◌, ◌<◌, ◌≤◌, true, List, [], ◌∷◌, length, slice_index, option_map, Option, Some, None, refl, sym, ap, subst, ◌∙◌, arith}
use Rattle.std.proofs.lemmas.Bool.{and_parts, eqb-true}
use Rattle.std.proofs.lemmas.Bool.Decides.{nat_tests}
use Rattle.std.proofs.lemmas.Option.{option_and_then_some}
use Rattle.text.proofs.Chosen.{chosen}
use Rattle.text.proofs.Decimals.{read_written as decimal_back}
use Rattle.text.proofs.Pairs.{read_written as hex_back, length-hex_text}
use Rattle.text.specs.Hex.{hex_text, read_hex}
use Rattle.lines.specs.Words.{is_pocket, pocket_text, read_byte, read_letter, read_pocket}
use Rattle.lines.specs.declared.pocket.Pocket.{Pocket}
use Rattle.lines.specs.Forms.{Form, a_family, a_number, a_port, a_pocket, a_text, a_mask, Value, value, word_of}
use Rattle.family.specs.Kinds.{kind_of, letter_of}
use Rattle.family.specs.declared.family_kind.FamilyKind.{FamilyKind}
use Rattle.family.specs.declared.family_kind.FamilyKind.TheVariants.{Powers, Dickson}

-- a list of one
only : (xs : List ℕ) → length xs ≡ 1 → slice_index xs 0 ∷ [] ≡ xs
only [] h = absurd (omega arith)
only (x ∷ []) h = refl
only (x ∷ y ∷ more) h = absurd (omega arith)

-- a list of two
both : (xs : List ℕ) → length xs ≡ 2 → slice_index xs 0 ∷ slice_index xs 1 ∷ [] ≡ xs
both [] h = absurd (omega arith)
both (x ∷ []) h = absurd (omega arith)
both (x ∷ y ∷ []) h = refl
both (x ∷ y ∷ z ∷ more) h = absurd (omega arith)

letter_back : (word : List ℕ) (letter : ℕ) → read_letter word ≡ Some letter → letter ∷ [] ≡ word
letter_back word letter e =
    let parts = chosen _ (slice_index word 0) letter (sym e) in
    ap (λ l. l ∷ []) (sym parts.1) ∙ only word (eqb-true _ _ parts.0)

kind_back : (letter : ℕ) (kind : FamilyKind) → kind_of letter ≡ Some kind → letter_of kind ≡ letter
kind_back letter Powers e = grind (arith, nat_tests)
kind_back letter Dickson e = grind (arith, nat_tests)

family_back : (word : List ℕ) (kind : FamilyKind) → value a_family 0 word ≡ Some kind
    → letter_of kind ∷ [] ≡ word
family_back word kind e =
    option_and_then_some kind_of (read_letter word) kind e
    (λ letter is named. ap (λ l. l ∷ []) (kind_back letter kind named) ∙ letter_back word letter is)

-- a letter and a digit from one of eight on, and the place that they make
module _ (word : List ℕ) (h : is_pocket word ≡ true) where
  abbrev place : ℕ
  place = 8 * (slice_index word 0 - 65) + (slice_index word 1 - 48)

  place_within : place < 64
  place_within = grind (arith, nat_tests)

  place_back : (65 + place / 8) ∷ (48 + place % 8) ∷ [] ≡ word
  place_back =
      let size : length word ≡ 2 = grind (arith, nat_tests) in
      let holder : 65 ≤ slice_index word 0 = grind (arith, nat_tests) in
      let low : 48 ≤ slice_index word 1 = grind (arith, nat_tests) in
      let high : slice_index word 1 ≤ 55 = grind (arith, nat_tests) in
      let first : 65 + place / 8 ≡ slice_index word 0 = omega arith in
      let second : 48 + place % 8 ≡ slice_index word 1 = omega arith in
      ap (λ x. x ∷ (48 + place % 8) ∷ []) first ∙ ap (λ x. slice_index word 0 ∷ x ∷ []) second
      ∙ both word size

pocket_back : (number : ℕ) (word : List ℕ) (pocket : Pocket) → read_pocket number word ≡ Some pocket
    → pocket_text pocket ≡ word
pocket_back number word pocket e =
    let parts = chosen _ _ pocket (sym e) in
    ap pocket_text (sym parts.1) ∙ place_back word parts.0

-- there are 64 pockets
pub pocket_within : (number : ℕ) (word : List ℕ) (pocket : Pocket)
    → read_pocket number word ≡ Some pocket → pocket.index < 64
pocket_within number word pocket e =
    let parts = chosen _ _ pocket (sym e) in
    subst (λ (p : Pocket). p.index < 64) parts.1 (place_within word parts.0)

byte_in : (o : Option (List ℕ)) (byte : ℕ) → option_map (λ bytes. slice_index bytes 0) o ≡ Some byte
    → (bytes : List ℕ) × ((o ≡ Some bytes) × (slice_index bytes 0 ≡ byte))
byte_in (Some bytes) byte e = (bytes, (refl, cc))
byte_in None byte e = cc

mask_back : (word : List ℕ) (mask : ℕ) → read_byte word ≡ Some mask → hex_text (mask ∷ []) ≡ word
mask_back word mask e =
    let (bytes, (is, first)) = byte_in (read_hex 1 word) mask e in
    let back = hex_back 1 word _ refl bytes is in
    let size : length word ≡ 2 = eqb-true _ _ (and_parts _ _ (chosen _ _ bytes (sym is)).0).0 in
    let one : length bytes ≡ 1 = omega (arith, length-hex_text bytes, ap length back) in
    ap (λ b. hex_text (b ∷ [])) (sym first) ∙ ap hex_text (only bytes one) ∙ back

pub spelled_value : (form : Form) (number : ℕ) (word : List ℕ) (v : Value form)
    → value form number word ≡ Some v → word_of form v ≡ word
spelled_value a_family number word v e = family_back word v e
spelled_value a_number number word v e = decimal_back word _ refl v e
spelled_value a_port number word v e = hex_back 6 word _ refl v e
spelled_value a_pocket number word v e = pocket_back number word v e
spelled_value a_text number word v e = ap (λ w. w.bytes) (sym (chosen _ _ v (sym e)).1)
spelled_value a_mask number word v e = mask_back word v e

-- a word of no bytes fits no form
pub value_none : (form : Form) (number : ℕ) → value form number [] ≡ None
value_none a_family number = refl
value_none a_number number = refl
value_none a_port number = refl
value_none a_pocket number = refl
value_none a_text number = refl
value_none a_mask number = refl
