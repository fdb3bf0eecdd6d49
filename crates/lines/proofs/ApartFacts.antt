-- Answers of one kind with the same line are the same.
use Rattle.std.proofs.Common.{◌≡◌, ℕ, ◌<◌, ◌^◌, true, ◌==◌, cond, List, [], ◌∷◌, ◌++◌, length, drop, get_or, decimal, Some, refl, sym, ap, ◌∙◌, arith, inl, inr, append_assoc}
use Rattle.std.proofs.lemmas.Bool.{and_parts, cases_lt}
use Rattle.std.proofs.lemmas.Bool.Decides.{nat_tests}
use Rattle.std.proofs.lemmas.List.{get_or_past}
use Rattle.std.proofs.lemmas.Fmt.{decimal_injective}
use Rattle.std.specs.Char.{is_ascii_digit}
use Rattle.std.specs.List.{All}
use Rattle.std.specs.Str.{all_ascii_digits}
use Rattle.refusal.specs.declared.Layer.{Layer}
use Rattle.refusal.specs.declared.Layer.TheVariants.{Family, Holder, Store, Line}
use Rattle.refusal.specs.declared.Refusal.{Refusal}
use Rattle.refusal.specs.Letters.{layer_letter}
use Rattle.text.proofs.Pairs.{written_read}
use Rattle.text.specs.Hex.{hex_text, read_hex}
use Rattle.text.specs.RefusalLine.{refusal_line}
use Rattle.lines.proofs.AnswerFacts.{decimal_digits, same_some}
use Rattle.lines.specs.AnswerLine.{ok_line}
use Rattle.lines.specs.ToldApart.{TellsApart}
use Rattle.lines.specs.declared.answer.Answer.TheVariants.{Capability, Number, Refused}

same_tail : (x y : ℕ) (xs ys : List ℕ) → ◌≡◌ {A = List ℕ} (x ∷ xs) (y ∷ ys) → (x ≡ y) × (xs ≡ ys)
same_tail x y xs ys e = (cc, cc)

never_nil : (x : ℕ) (xs : List ℕ) {P : Type 0} → ◌≡◌ {A = List ℕ} (x ∷ xs) [] → P
never_nil x xs e = absurd (let z : ◌≡◌ {A = ℕ} 0 1 = cc in omega arith)

-- the same line, the same shown
same_shown : (xs ys : List ℕ) → ok_line xs ≡ ok_line ys → xs ≡ ys
same_shown [] [] e = refl
same_shown [] (y ∷ ys) e = never_nil _ _ (sym (ap (λ l. drop 2 l) e))
same_shown (x ∷ xs) [] e = never_nil _ _ (ap (λ l. drop 2 l) e)
same_shown (x ∷ xs) (y ∷ ys) e = ap (λ l. drop 3 l) e

pub number_apart : (n : ℕ) → n < 2 ^ 64 → TellsApart (Number n)
number_apart n small = λ other below e. decimal_injective other n below small (same_shown _ _ e)

all_small : (xs : List ℕ) → All (λ b. b < 256) xs → (i : ℕ) → get_or xs i 0 < 256
all_small xs h i =
    elim (cases_lt i (length xs))
    [ inl below ↦ h i 0 below | inr past ↦ rw (get_or_past xs i 0 past) (omega arith) ]

pub capability_apart :
    (bytes : List ℕ) → length bytes ≡ 16 → read_hex (length bytes) (hex_text bytes) ≡ Some bytes
    → TellsApart (Capability bytes)
capability_apart bytes size back = λ other sixteen below e.
    let digits = same_shown (hex_text other) (hex_text bytes) e in
    let lengths : length other ≡ length bytes = sixteen ∙ sym size in
    same_some other bytes
    (sym (written_read other (all_small other below))
    ∙ ap (λ n. read_hex n (hex_text other)) lengths ∙ ap (λ t. read_hex (length bytes) t) digits
    ∙ back)

-- two words of digits up to a space
same_word :
    (xs ys r s : List ℕ) → all_ascii_digits xs ≡ true → all_ascii_digits ys ≡ true
    → xs ++ (32 ∷ r) ≡ ys ++ (32 ∷ s) → (xs ≡ ys) × (r ≡ s)
same_word [] [] r s p q e = (refl, (same_tail _ _ _ _ e).1)
same_word [] (y ∷ ys) r s p q e =
    let space = (same_tail _ _ _ _ e).0 in
    let digit = (and_parts (is_ascii_digit y) (all_ascii_digits ys) q).0 in
    absurd (grind (arith, nat_tests))
same_word (x ∷ xs) [] r s p q e =
    let space = (same_tail _ _ _ _ e).0 in
    let digit = (and_parts (is_ascii_digit x) (all_ascii_digits xs) p).0 in
    absurd (grind (arith, nat_tests))
same_word (x ∷ xs) (y ∷ ys) r s p q e =
    let tail = same_tail _ _ _ _ e in
    let rest =
    same_word xs ys r s (and_parts (is_ascii_digit x) (all_ascii_digits xs) p).1
    (and_parts (is_ascii_digit y) (all_ascii_digits ys) q).1 tail.1 in
    let here = tail.0 in
    let more = rest.0 in
    (cc, rest.1)

layer_of : ℕ → Layer
layer_of n = cond (n == 70) Family (cond (n == 72) Holder (cond (n == 83) Store Line))

layer_back : (l : Layer) → layer_of (layer_letter l) ≡ l
unfolding layer_of
layer_back Family = refl
layer_back Holder = refl
layer_back Store = refl
layer_back Line = refl

-- the line behind its "no "
behind_no : (a : Refusal)
    → drop 3 (refusal_line a)
    ≡ decimal a.number ++ (32 ∷ layer_letter a.layer ∷ 32 ∷ decimal a.place)
behind_no a =
    append_assoc (decimal a.number) (32 ∷ layer_letter a.layer ∷ 32 ∷ []) (decimal a.place)

pub refusal_apart : (b : Refusal) → b.number < 256 → b.place < 256 → TellsApart (Refused b)
refusal_apart b bn bp = λ a an a_place e.
    let whole = sym (behind_no a) ∙ ap (λ l. drop 3 l) e ∙ behind_no b in
    let first =
    same_word _ _ _ _ (decimal_digits a.number (omega arith))
    (decimal_digits b.number (omega arith)) whole in
    let second = same_tail _ _ _ _ first.1 in
    let third = same_tail _ _ _ _ second.1 in
    let number : a.number ≡ b.number = decimal_injective _ _ (omega arith) (omega arith) first.0 in
    let layer : a.layer ≡ b.layer =
    sym (layer_back a.layer) ∙ ap layer_of second.0 ∙ layer_back b.layer in
    let place : a.place ≡ b.place = decimal_injective _ _ (omega arith) (omega arith) third.1 in
    λ i. record { number = number i; layer = layer i; place = place i }
