-- Decimals that are read and written, there and back.
use Rattle.std.proofs.Common.{◌≡◌, ℕ, zero, suc, ◌^◌, ◌<◌, ◌≤◌, true, false, ◌⊎◌, List, [], ◌∷◌, length, get_or, Some, None, Ok, Err, decimal, Option, Result, sym, ap, ◌∙◌, inl, inr, arith}
use Rattle.std.specs.Char.{is_ascii_digit}
use Rattle.std.specs.Result.{OkIff, result_ok}
use Rattle.std.specs.Str.Parse.{digits_value, ParsesUnsigned}
use Rattle.std.specs.Str.{all_ascii_digits, IsAscii, IsUtf8}
use Rattle.std.proofs.lemmas.Str.{IsUtf8-from_ascii}
use Rattle.std.proofs.lemmas.Fmt.{decimal-digits_value, digits_value-decimal, digits_decimal, length-decimal-le, decimal_nonempty, first_decimal, decimal_digit}
use Rattle.std.proofs.lemmas.Str.Parse.{IsNumeralModel, numerals_by_value, tells_all_ascii_digits, digits_value_short, parse_plain}
use Rattle.std.proofs.lemmas.Bool.{and_parts, cases_lt, cases_Bool, cond-true, cond-false}
use Rattle.std.proofs.lemmas.Bool.Decides.{nat_tests}
use Rattle.text.proofs.Chosen.{chosen}
use Rattle.text.specs.Decimal.{is_decimal, read_decimal}

own : IsNumeralModel (λ ds. all_ascii_digits ds ≡ true) (digits_value 10)
own = numerals_by_value _ tells_all_ascii_digits

-- just "0" begins with a zero
no_zero : (n : ℕ) → n < 10 ^ 15 → (length (decimal n) ≡ 1) ⊎ (48 < get_or (decimal n) 0 0)
no_zero n h =
    elim (cases_lt 0 n) [
      | inl some ↦ inr (first_decimal n some (omega arith))
      | inr none ↦ inl (ap length (decimal_digit n (omega arith)))
    ]

-- a number that is written is read
pub written_read : (n : ℕ) → n < 10 ^ 15 → read_decimal (decimal n) ≡ Some n
written_read n h =
    let some = decimal_nonempty n (omega arith) in
    let short = length-decimal-le 15 n (omega arith) h (omega arith) in
    let digits = digits_decimal own n (omega arith) in
    let front = no_zero n h in
    let test : is_decimal (decimal n) ≡ true = grind (arith, nat_tests) in
    cond-true _ _ _ test ∙ ap (λ k. Some k) (digits_value-decimal own n (omega arith))

-- a word that is read is what is written
pub read_written :
    (word : List ℕ) (r : Option ℕ) → r ≡ read_decimal word → (n : ℕ) → r ≡ Some n → decimal n ≡ word
read_written word r gives n e =
    let parts = chosen _ (digits_value 10 word) n (sym e ∙ gives) in
    let test = parts.0 in
    let some : 0 < length word = grind (arith, nat_tests) in
    let short : length word ≤ 15 = grind (arith, nat_tests) in
    let digits : all_ascii_digits word ≡ true = grind (arith, nat_tests) in
    let front : get_or word 0 0 ≡ 48 → length word ≡ 1 = grind (arith, nat_tests) in
    let small = digits_value_short own word 15 digits short in
    ap decimal (sym parts.1) ∙ decimal-digits_value own word digits some front (omega arith)

-- digits are text
digits_ascii : (word : List ℕ) → all_ascii_digits word ≡ true → IsAscii word
digits_ascii [] h i = omega arith
digits_ascii (c ∷ rest) h zero = grind (arith, nat_tests)
digits_ascii (c ∷ rest) h (suc i) =
    digits_ascii rest (and_parts (is_ascii_digit c) (all_ascii_digits rest) h).1 i

-- so what is no text is no decimal
pub unread_bytes : (word : List ℕ) → (IsUtf8 word → ⊥) → None ≡ read_decimal word
unread_bytes word h =
    elim (cases_Bool (all_ascii_digits word)) [
      | inl digits ↦ absurd (h (IsUtf8-from_ascii word (digits_ascii word digits)))
      | inr other ↦ let test : is_decimal word ≡ false = grind (arith, nat_tests) in
          sym (cond-false _ _ _ test)
    ]

-- what `parse` makes of a word with no plus and no needless zero in front
pub read_parsed :
    {E : Type 0} (word : List ℕ) (r : Result ℕ E) → ParsesUnsigned 64 10 word r → length word ≤ 15 →
    (get_or word 0 0 ≡ 43 → ⊥) → (1 < length word → get_or word 0 0 ≡ 48 → ⊥)
    → result_ok r ≡ read_decimal word
read_parsed {E} word r h short plus front = by_result r (parse_plain own 64 word r h plus)
  where
    by_result :
        (r : Result ℕ E) →
        OkIff r ((all_ascii_digits word ≡ true) × (0 < length word)
        × (digits_value 10 word < 2 ^ 64)) (digits_value 10 word) →
        result_ok r ≡ read_decimal word
    by_result (Ok x) known =
        let digits : all_ascii_digits word ≡ true = known.0.0 in
        let some : 0 < length word = known.0.1 in
        let test : is_decimal word ≡ true = grind (arith, nat_tests) in
        ap Some known.1 ∙ sym (cond-true _ _ _ test)
    by_result (Err e) fails =
        elim (cases_Bool (is_decimal word)) [
          | inl test ↦
              let digits : all_ascii_digits word ≡ true = grind (arith, nat_tests) in
              let some : 0 < length word = grind (arith, nat_tests) in
              let small = digits_value_short own word 15 digits short in
              absurd (fails (digits, some, omega arith))
          | inr test ↦ sym (cond-false _ _ _ test)
        ]
