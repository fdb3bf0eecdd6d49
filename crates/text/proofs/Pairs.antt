-- Two hexadecimal digits to a byte, there and back.
use Rattle.std.proofs.Common.{◌≡◌, ℕ, suc, ◌+◌, ◌-◌, ◌*◌, ◌/◌, ◌%◌, ◌<◌, true, ◌&&◌, eqb, List, [], ◌∷◌, length, get_or, Some, None, Option, sym, refl, ap, ◌∙◌, inl, inr, arith}
use Rattle.std.proofs.lemmas.Bool.{and_parts, and_from, eq-eqb, eqb-true, cond-true, cond-false, cases_Bool}
use Rattle.std.proofs.lemmas.Bool.Decides.{nat_tests}
use Rattle.std.specs.List.{list_all}
use Rattle.text.proofs.Chosen.{chosen}
use Rattle.text.specs.Hex.{hex_digit, is_hex_digit, value_of_digit, hex_text, hex_bytes, read_hex}

pub length-hex_text : (bs : List ℕ) → length (hex_text bs) ≡ 2 * length bs
length-hex_text [] = refl
length-hex_text (b ∷ bs) = omega (arith, length-hex_text bs)

-- a digit of a number below 16 is a digit, and stands for it
digit_read : (n : ℕ) → n < 16
    → (is_hex_digit (hex_digit n) ≡ true) × (value_of_digit (hex_digit n) ≡ n)
digit_read n h = (grind (arith, nat_tests), grind (arith, nat_tests))

digit_back : (c : ℕ) → is_hex_digit c ≡ true
    → (hex_digit (value_of_digit c) ≡ c) × (value_of_digit c < 16)
digit_back c h = (grind (arith, nat_tests), grind (arith, nat_tests))

all_hex_hex_text : (bs : List ℕ) → ((i : ℕ) → get_or bs i 0 < 256)
    → list_all is_hex_digit (hex_text bs) ≡ true
all_hex_hex_text [] small = refl
all_hex_hex_text (b ∷ bs) small =
    let byte : b < 256 = small 0 in
    and_from _ _ (digit_read (b / 16) (omega arith)).0
    (and_from _ _ (digit_read (b % 16) (omega arith)).0 (all_hex_hex_text bs (λ i. small (suc i))))

hex_bytes-hex_text : (bs : List ℕ) → ((i : ℕ) → get_or bs i 0 < 256) → hex_bytes (hex_text bs) ≡ bs
hex_bytes-hex_text [] small = refl
hex_bytes-hex_text (b ∷ bs) small =
    let byte : b < 256 = small 0 in
    let high = (digit_read (b / 16) (omega arith)).1 in
    let low = (digit_read (b % 16) (omega arith)).1 in
    let here : 16 * value_of_digit (hex_digit (b / 16)) + value_of_digit (hex_digit (b % 16)) ≡ b =
    omega arith in
    let rest = hex_bytes-hex_text bs (λ i. small (suc i)) in
    cc

-- bytes that are written are read
pub written_read : (bs : List ℕ) → ((i : ℕ) → get_or bs i 0 < 256)
    → read_hex (length bs) (hex_text bs) ≡ Some bs
written_read bs small =
    cond-true _ _ _ (and_from _ _ (eq-eqb _ _ (length-hex_text bs)) (all_hex_hex_text bs small))
    ∙ ap (λ xs. Some xs) (hex_bytes-hex_text bs small)

hex_text-hex_bytes : (word : List ℕ) (n : ℕ) → length word ≡ 2 * n
    → list_all is_hex_digit word ≡ true → hex_text (hex_bytes word) ≡ word
hex_text-hex_bytes [] n e h = refl
hex_text-hex_bytes (c ∷ []) n e h = absurd (omega arith)
hex_text-hex_bytes (c ∷ d ∷ rest) n e h =
    let first = and_parts _ _ h in
    let second = and_parts _ _ first.1 in
    let high = digit_back c first.0 in
    let low = digit_back d second.0 in
    let over : (16 * value_of_digit c + value_of_digit d) / 16 ≡ value_of_digit c = omega arith in
    let under : (16 * value_of_digit c + value_of_digit d) % 16 ≡ value_of_digit d = omega arith in
    let more = hex_text-hex_bytes rest (n - 1) (omega arith) second.1 in
    cc

-- a word that is read is what is written
pub read_written :
    (n : ℕ) (word : List ℕ) (r : Option (List ℕ)) → r ≡ read_hex n word → (bs : List ℕ)
    → r ≡ Some bs → hex_text bs ≡ word
read_written n word r gives bs e =
    let parts = chosen _ (hex_bytes word) bs (sym e ∙ gives) in
    let tests = and_parts _ _ parts.0 in
    ap hex_text (sym parts.1) ∙ hex_text-hex_bytes word n (eqb-true _ _ tests.0) tests.1

-- where a word is not read
pub unread : (n : ℕ) (word : List ℕ) → (length word ≡ 2 * n → list_all is_hex_digit word ≡ true → ⊥)
    → None ≡ read_hex n word
unread n word h =
    elim (cases_Bool (eqb (length word) (2 * n) && list_all is_hex_digit word)) [
      | inl holds ↦ let tests = and_parts _ _ holds in absurd (h (eqb-true _ _ tests.0) tests.1)
      | inr fails ↦ sym (cond-false _ _ _ fails)
    ]
