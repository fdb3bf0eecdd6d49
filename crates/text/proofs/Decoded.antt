-- Without capitals, what the crate `hex` decodes is what `read_hex` reads.
use Rattle.std.proofs.Common.{◌≡◌, ℕ, ◌+◌, ◌-◌, ◌*◌, ◌%◌, ◌&&◌, ◌||◌, Bool, true, false, cond, eqb, List, [], ◌∷◌, length, Some, None, Result, Ok, Err, refl, ap, sym, ◌∙◌, inl, inr, arith}
use Rattle.std.proofs.lemmas.Bool.{and_parts, cases_Bool, cases_eq, eqb-true, eqb-false, or_parts}
use Rattle.std.proofs.lemmas.Bool.Decides.{nat_tests}
use Rattle.std.specs.Char.{is_ascii_uppercase}
use Rattle.std.specs.List.{list_all, list_any}
use Rattle.std.specs.Option.{MatchOption, option_map}
use Rattle.std.specs.Result.{MatchResult, result_ok}
use Rattle.hex.specs.Hex.{decode_pairs, decode_sized, hex_digit_value, pair_value}
use Rattle.hex.proofs.HexLemmas.{decode_sized-odd, decode_sized-other}
use Rattle.hex.proofs.Pairs.{cons_byte, decode_pairs-err_pair, decode_pairs-ok_pair, decode_sized-pairs}
use Rattle.hex.specs.declared.error.FromHexError.{FromHexError}
use Rattle.hex.specs.declared.error.FromHexError.TheVariants.{InvalidHexCharacter}
use Rattle.text.specs.Hex.{is_hex_digit, value_of_digit, hex_bytes, read_hex}

digit_reads : (c : ℕ) → is_ascii_uppercase c ≡ false → is_hex_digit c ≡ true
    → hex_digit_value c ≡ Some (value_of_digit c)
digit_reads c h d = grind (arith, nat_tests)

digit_fails : (c : ℕ) → is_ascii_uppercase c ≡ false → is_hex_digit c ≡ false
    → hex_digit_value c ≡ None
digit_fails c h d = grind (arith, nat_tests)

digit_small : (c : ℕ) → is_hex_digit c ≡ true → is_ascii_uppercase c ≡ false
digit_small c d = grind (arith, nat_tests)

-- a word of digits has no capitals
pub no_capitals : (word : List ℕ) → list_all is_hex_digit word ≡ true
    → list_any is_ascii_uppercase word ≡ false
no_capitals [] h = refl
no_capitals (c ∷ cs) h =
    let parts = and_parts _ _ h in
    ap (λ b. b || list_any is_ascii_uppercase cs) (digit_small c parts.0) ∙ no_capitals cs parts.1

-- a byte in front of what is read
front : (here : Bool) (byte : ℕ) (bytes : List ℕ) (r : Result (List ℕ) FromHexError) →
    cond here (Some bytes) None ≡ result_ok r
    → cond here (Some (byte ∷ bytes)) None ≡ result_ok (cons_byte byte r)
front true byte bytes (Ok read) e = ap (λ o. option_map (λ l. byte ∷ l) o) e
front true byte bytes (Err why) e = ap (λ o. option_map (λ l. byte ∷ l) o) e
front false byte bytes (Ok read) e = ap (λ o. option_map (λ l. byte ∷ l) o) e
front false byte bytes (Err why) e = ap (λ o. option_map (λ l. byte ∷ l) o) e

decoded : (i n : ℕ) (word : List ℕ) → length word ≡ 2 * n
    → list_any is_ascii_uppercase word ≡ false →
    cond (list_all is_hex_digit word) (Some (hex_bytes word)) None ≡ result_ok (decode_pairs i word)
unfolding decode_pairs
decoded i n [] e small = refl
decoded i n (a ∷ []) e small = absurd (omega arith)
decoded i n (a ∷ b ∷ rest) e small =
    let first = or_parts _ _ small in
    let second = or_parts _ _ first.1 in
    let more = decoded (i + 2) (n - 1) rest (omega arith) second.1 in
    elim (cases_Bool (is_hex_digit a)) [
      | inr bad ↦
          let high = digit_fails a first.0 bad in
          let pair : pair_value a b i ≡ Err (InvalidHexCharacter a i) = rw high refl in
          ap (λ t. cond (t && (is_hex_digit b && list_all is_hex_digit rest))
          (Some (hex_bytes (a ∷ b ∷ rest))) None) bad
          ∙ ap result_ok (sym (decode_pairs-err_pair i a b _ rest pair))
      | inl good ↦
          let high = digit_reads a first.0 good in
          let begun =
          ap (λ t. cond (t && (is_hex_digit b && list_all is_hex_digit rest))
          (Some (hex_bytes (a ∷ b ∷ rest))) None) good in
          elim (cases_Bool (is_hex_digit b)) [
            | inr bad ↦
                let low = digit_fails b second.0 bad in
                let pair : pair_value a b i ≡ Err (InvalidHexCharacter b (i + 1)) =
                rw (high, low) refl in
                begun ∙ ap (λ t. cond (t && list_all is_hex_digit rest)
                (Some (hex_bytes (a ∷ b ∷ rest))) None) bad
                ∙ ap result_ok (sym (decode_pairs-err_pair i a b _ rest pair))
            | inl right ↦
                let low = digit_reads b second.0 right in
                let pair : pair_value a b i ≡ Ok (value_of_digit a * 16 + value_of_digit b) =
                rw (high, low) refl in
                let order : 16 * value_of_digit a + value_of_digit b
                ≡ value_of_digit a * 16 + value_of_digit b = omega arith in
                begun ∙ ap (λ t. cond (t && list_all is_hex_digit rest)
                (Some (hex_bytes (a ∷ b ∷ rest))) None) right
                ∙ ap (λ v. cond (list_all is_hex_digit rest) (Some (v ∷ hex_bytes rest)) None) order
                ∙ front (list_all is_hex_digit rest) _ (hex_bytes rest) _ more
                ∙ ap result_ok (sym (decode_pairs-ok_pair i a b _ rest pair))
          ]
    ]

-- what is decoded is what is read
pub decoded_read : (n : ℕ) (word : List ℕ) → list_any is_ascii_uppercase word ≡ false
    → result_ok (decode_sized word n) ≡ read_hex n word
decoded_read n word small =
    elim (cases_Bool (eqb (length word) (2 * n))) [
      | inl fits ↦
          let size = eqb-true _ _ fits in
          ap result_ok (decode_sized-pairs word n (omega arith) (omega arith))
          ∙ sym (decoded 0 n word size small)
          ∙ sym (ap (λ t. cond (t && list_all is_hex_digit word) (Some (hex_bytes word)) None) fits)
      | inr other ↦
          let none : None ≡ read_hex n word =
          sym (ap (λ t. cond (t && list_all is_hex_digit word) (Some (hex_bytes word)) None)
          other) in
          let differs = eqb-false _ _ other in
          elim (cases_eq (length word % 2) 1) [
            | inl odd ↦ ap result_ok (decode_sized-odd word n odd) ∙ none
            | inr even ↦ ap result_ok
                (decode_sized-other word n (omega arith) (λ half. differs (omega arith))) ∙ none
          ]
    ]

-- where decoding into a slice ends well, the slice holds what is decoded
pub decoded_into : (d : Result (List ℕ) FromHexError) (r : Result (Unit {0}) FromHexError)
    (out : List ℕ)
    → MatchResult d (λ bytes. (r ≡ Ok tt) × (out ≡ bytes)) (λ e. r ≡ Err e)
    → MatchOption (result_ok r) (None ≡ result_ok d) (λ _. Some out ≡ result_ok d)
decoded_into (Ok bytes) r out h = rw h.0 (ap (λ x. Some x) h.1)
decoded_into (Err why) r out h = rw h refl
