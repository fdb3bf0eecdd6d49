-- How long an answer line is, that it is one line, and how its two parts are put one behind the
-- other.
use Rattle.std.proofs.Common.{◌≡◌, ℕ, zero, suc, ◌+◌, ◌^◌, ◌≤◌, ◌<◌, true, List, [], ◌∷◌, ◌++◌, length, take, drop, codes, decimal, Some, Option, refl, sym, ap, ◌∙◌, arith, length-append}
use Rattle.std.proofs.lemmas.Bool.{and_parts, and_from, cond-true, le-leb}
use Rattle.std.proofs.lemmas.Bool.Decides.{nat_tests}
use Rattle.std.proofs.lemmas.List.Folds.{list_all-append}
use Rattle.std.proofs.lemmas.Fmt.{decimal_nonempty, digits_decimal, length-decimal-le}
use Rattle.std.proofs.lemmas.Str.Parse.{numerals_by_value, tells_all_ascii_digits}
use Rattle.std.specs.Char.{is_ascii_digit}
use Rattle.std.specs.Str.{all_ascii_digits}
use Rattle.refusal.specs.declared.Refusal.{Refusal}
use Rattle.refusal.specs.declared.Layer.{Layer}
use Rattle.refusal.specs.declared.Layer.TheVariants.{Family, Holder, Store, Line}
use Rattle.refusal.specs.Letters.{layer_letter}
use Rattle.text.specs.Hex.{hex_text}
use Rattle.text.specs.Put.{has_room, end_of, buffer_after}
use Rattle.text.specs.RefusalLine.{refusal_line}
use Rattle.lines.specs.AnswerLine.{StaysOneLine, answer_line, ok_line, is_one_line, line_over, answer_bytes}
use Rattle.lines.specs.declared.answer.Answer.{Answer}

-- an answer's line was put to the front of a buffer
pub record IsPut (answer : Answer) (was new : List ℕ) (r : Option ℕ) : Type 0 where
  pub end : r ≡ Some (length (answer_line answer))
  pub buffer : new ≡ line_over (answer_line answer) was
  pub short : length (answer_line answer) ≤ 258
  pub one_line : StaysOneLine answer

put_line :
    (answer : Answer) (line was new : List ℕ) (r : Option ℕ) → answer_line answer ≡ line
    → length line ≤ 258 →
    (is_one_line (answer_bytes answer) ≡ true → is_one_line line ≡ true) → r ≡ Some (length line)
    → new ≡ line_over line was → IsPut answer was new r
put_line answer line was new r is few one end buffer = record {
  end = end ∙ ap (λ l. Some (length l)) (sym is);
  buffer = buffer ∙ ap (λ l. line_over l was) (sym is);
  short = rw is few;
  one_line = λ h. ap is_one_line is ∙ one h;
}

-- what fits from the front on stands over what was there
put_over : (line was : List ℕ) → length line ≤ length was
    → (end_of was 0 line ≡ Some (length line)) × (buffer_after was 0 line ≡ line_over line was)
put_over line was room =
    let test : has_room was 0 line ≡ true = le-leb _ _ (omega arith) in (
      cond-true _ _ _ test ∙ ap Some (omega arith),
      cond-true _ _ _ test
          ∙ ap (λ n. line ++ drop n was) (omega arith),
    )

-- "ok " is put, and then what there is to show
ok_over :
    (shown was : List ℕ) → 0 < length shown → length shown ≤ 255 → 320 ≤ length was →
    (end_of (buffer_after was 0 (codes "ok ")) 3 shown ≡ Some (length (ok_line shown)))
    × (buffer_after (buffer_after was 0 (codes "ok ")) 3 shown ≡ line_over (ok_line shown) was)
ok_over [] was some few room = absurd (omega arith)
ok_over (b ∷ bs) [] some few room = absurd (omega arith)
ok_over (b ∷ bs) (x ∷ []) some few room = absurd (omega arith)
ok_over (b ∷ bs) (x ∷ y ∷ []) some few room = absurd (omega arith)
ok_over (b ∷ bs) (x ∷ y ∷ z ∷ was) some few room =
    let begun : buffer_after (x ∷ y ∷ z ∷ was) 0 (codes "ok ") ≡ 111 ∷ 107 ∷ 32 ∷ was =
    (put_over (codes "ok ") (x ∷ y ∷ z ∷ was) (omega arith)).1 in
    let test : has_room (111 ∷ 107 ∷ 32 ∷ was) 3 (b ∷ bs) ≡ true = le-leb _ _ (omega arith) in
    let n : 3 + suc (length bs) ≡ suc (suc (suc (suc (length bs)))) = omega arith in (
      ap (λ o. end_of o 3 (b ∷ bs)) begun ∙ cond-true _ _ _ test ∙ ap Some (omega arith),
      ap (λ o. buffer_after o 3 (b ∷ bs)) begun ∙ cond-true _ _ _ test
          ∙ ap (λ k. 111 ∷ 107 ∷ 32 ∷ b ∷ (bs ++ drop k (111 ∷ 107 ∷ 32 ∷ was))) n,
    )

ok_length : (shown : List ℕ) → length (ok_line shown) ≤ length shown + 3
ok_length [] = omega arith
ok_length (b ∷ bs) = omega arith

ok_one_line : (shown : List ℕ) → is_one_line shown ≡ true → is_one_line (ok_line shown) ≡ true
ok_one_line [] h = refl
ok_one_line (b ∷ bs) h = h

pub same_some : {A : Type 0} (x y : A) → ◌≡◌ {A = Option A} (Some x) (Some y) → x ≡ y
same_some x y e = cc

-- "ok ", and then what there is to show
pub put_shown :
    (answer : Answer) (shown was : List ℕ) (mid : List ℕ) (at : ℕ) (new : List ℕ) (r : Option ℕ)
    → answer_line answer ≡ ok_line shown →
    0 < length shown → length shown ≤ 255
    → (is_one_line (answer_bytes answer) ≡ true → is_one_line shown ≡ true) → 320 ≤ length was →
    Some at ≡ end_of was 0 (codes "ok ") → mid ≡ buffer_after was 0 (codes "ok ")
    → r ≡ end_of mid at shown → new ≡ buffer_after mid at shown → IsPut answer was new r
put_shown answer shown was mid at new r is some few one room behind begun end buffer =
    let three : at ≡ 3 = same_some _ _ (behind ∙ (put_over (codes "ok ") was (omega arith)).0) in
    let line_over = ok_over shown was some few room in
    put_line answer (ok_line shown) was new r is (omega (arith, ok_length shown))
    (λ h. ok_one_line shown (one h))
    (end ∙ ap (λ m. end_of m at shown) begun
    ∙ ap (λ k. end_of (buffer_after was 0 (codes "ok ")) k shown) three ∙ line_over.0)
    (buffer ∙ ap (λ m. buffer_after m at shown) begun
    ∙ ap (λ k. buffer_after (buffer_after was 0 (codes "ok ")) k shown) three ∙ line_over.1)

-- digits are no line feeds
digits_one_line : (ds : List ℕ) → all_ascii_digits ds ≡ true → is_one_line ds ≡ true
digits_one_line [] h = refl
digits_one_line (d ∷ ds) h =
    let parts = and_parts (is_ascii_digit d) (all_ascii_digits ds) h in
    and_from _ _ (grind (arith, nat_tests)) (digits_one_line ds parts.1)

pub decimal_digits : (n : ℕ) → n < 2 ^ 64 → all_ascii_digits (decimal n) ≡ true
decimal_digits n small = digits_decimal (numerals_by_value _ tells_all_ascii_digits) n small

-- what a decimal looks like
pub record IsShort (n : ℕ) : Type 0 where
  pub some : 0 < length (decimal n)
  pub few : length (decimal n) ≤ 20
  pub one : is_one_line (decimal n) ≡ true

pub decimal_is_short : (n : ℕ) → n < 2 ^ 64 → IsShort n
decimal_is_short n small = record {
  some = decimal_nonempty n small;
  few = length-decimal-le 20 n (omega arith) (omega arith) small;
  one = digits_one_line (decimal n) (decimal_digits n small);
}

pub hex_one_line : (bytes : List ℕ) → is_one_line (hex_text bytes) ≡ true
hex_one_line [] = refl
hex_one_line (b ∷ bs) =
    and_from _ _ (grind (arith, nat_tests))
    (and_from _ _ (grind (arith, nat_tests)) (hex_one_line bs))

pub take_one_line : (n : ℕ) (bytes : List ℕ) → is_one_line bytes ≡ true
    → is_one_line (take n bytes) ≡ true
take_one_line zero bytes h = refl
take_one_line (suc n) [] h = refl
take_one_line (suc n) (b ∷ bs) h = let parts = and_parts _ _ h in
    and_from _ _ parts.0 (take_one_line n bs parts.1)

letter_one_line : (l : Layer) → is_one_line (layer_letter l ∷ codes " ") ≡ true
letter_one_line Family = refl
letter_one_line Holder = refl
letter_one_line Store = refl
letter_one_line Line = refl

both : (xs ys : List ℕ) → is_one_line xs ≡ true → is_one_line ys ≡ true
    → is_one_line (xs ++ ys) ≡ true
both xs ys p q = list_all-append _ xs ys ∙ and_from _ _ p q

-- a refusal's line
pub put_refused :
    (answer : Answer) (refusal : Refusal) (was new : List ℕ) (r : Option ℕ)
    → answer_line answer ≡ refusal_line refusal →
    refusal.number < 256 → refusal.place < 256 → 320 ≤ length was →
    r ≡ end_of was 0 (refusal_line refusal) → new ≡ buffer_after was 0 (refusal_line refusal)
    → IsPut answer was new r
put_refused answer refusal was new r is number place room end buffer =
    let n = decimal_is_short refusal.number (omega arith) in
    let p = decimal_is_short refusal.place (omega arith) in
    let front = codes "no " ++ decimal refusal.number in
    let middle = codes " " ++ (layer_letter refusal.layer ∷ codes " ") in
    let few : length (refusal_line refusal) ≤ 258 =
    omega (
      arith,
      length-append (codes "no ") (decimal refusal.number),
      length-append front middle,
      length-append (front ++ middle) (decimal refusal.place),
      n.few,
      p.few,
    ) in
    let line_over = put_over (refusal_line refusal) was (omega arith) in
    let first : is_one_line front ≡ true = both (codes "no ") (decimal refusal.number) refl n.one in
    let second : is_one_line (front ++ middle) ≡ true =
    both front middle first (both (codes " ") (layer_letter refusal.layer ∷ codes " ") refl
    (letter_one_line refusal.layer)) in
    let one : is_one_line (refusal_line refusal) ≡ true =
    both (front ++ middle) (decimal refusal.place) second p.one in
    put_line answer (refusal_line refusal) was new r is few (λ h. one) (end ∙ line_over.0)
    (buffer ∙ line_over.1)
