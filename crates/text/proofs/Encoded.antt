-- The digits of the crate `hex` are those of `hex_text`.
use Rattle.std.proofs.Common.{◌≡◌, ℕ, zero, suc, ◌/◌, ◌%◌, ◌<◌, ◌==◌, ◌&&◌, Bool, true, List, [], ◌∷◌, get_or, slice_index, refl, inl, inr, arith}
use Rattle.std.proofs.lemmas.Bool.{and_parts, cases_lt, eqb-true}
use Rattle.hex.specs.Hex.{encode_with, encode_lower, lower_digits}
use Rattle.text.specs.Hex.{hex_digit, hex_text}

-- the first n digits of the table are ours
abbrev same : ℕ → Bool
same zero = true
same (suc n) = (slice_index lower_digits n == hex_digit n) && same n

same_at : (n k : ℕ) → same n ≡ true → k < n → slice_index lower_digits k ≡ hex_digit k
same_at zero k h below = absurd (omega arith)
same_at (suc n) k h below =
    let parts = and_parts _ _ h in
    elim (cases_lt k n) [
      | inl less ↦ same_at n k parts.1 less
      | inr top ↦ let e : k ≡ n = omega arith in rw e (eqb-true _ _ parts.0)
    ]

pub encode_lower-hex_text : (bs : List ℕ) → ((i : ℕ) → get_or bs i 0 < 256)
    → encode_lower bs ≡ hex_text bs
unfolding encode_with
encode_lower-hex_text [] small = refl
encode_lower-hex_text (b ∷ bs) small =
    let byte : b < 256 = small 0 in
    let high = same_at 16 (b / 16) refl (omega arith) in
    let low = same_at 16 (b % 16) refl (omega arith) in
    let rest = encode_lower-hex_text bs (λ i. small (suc i)) in
    cc
