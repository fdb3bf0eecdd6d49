-- Numbers as bytes: there and back, at every width.
use Rattle.std.proofs.Common.{◌≡◌, ℕ, zero, suc, ◌+◌, ◌*◌, ◌/◌, ◌%◌, ◌^◌, ◌<◌, ◌≤◌, List, [], ◌∷◌, ◌++◌, length, drop, add-mul, mul_assoc, sym, refl, ap, ◌∙◌, mod-lt, mod-eq_of_lt, arith, pow-add}
use native.Mathlib.Nat.{mod-one}
use Rattle.std.proofs.Math.Nat.{pow-le-pow_right}
use Rattle.std.proofs.lemmas.List.{length_push}
use lib.Pow.{mod-pow-add}
use Rattle.std.specs.List.{AllByRecursion}
use Rattle.std.proofs.lemmas.Nat.{mul-add-lt, shr_high, mod_low}
use Rattle.std.specs.Int.{byte_at, bytes_high_first}
use Rattle.family.specs.Squares.{pow-mul}
use Rattle.holder.specs.Bytes.{number, bytes_of}

abbrev pub Bytes : List ℕ → Type 0
Bytes bs = AllByRecursion (λ b. b < 256) bs

pub length-bytes_of : (w n : ℕ) → length (bytes_of w n) ≡ w
length-bytes_of zero n = refl
length-bytes_of (suc w) n = ap suc (length-bytes_of w n)

pub bytes_bytes_of : (w n : ℕ) → Bytes (bytes_of w n)
bytes_bytes_of zero n = tt
bytes_bytes_of (suc w) n = (mod-lt (n / 2 ^ (8 * w)) (omega arith), bytes_bytes_of w n)

pub number-bytes_of : (w n : ℕ) → number (bytes_of w n) ≡ n % 2 ^ (8 * w)
number-bytes_of zero n = sym (mod-one n)
number-bytes_of (suc w) n =
    ap (λ l. n / 2 ^ (8 * w) % 256 * 2 ^ (8 * l) + number (bytes_of w n)) (length-bytes_of w n)
    ∙ ap (λ x. n / 2 ^ (8 * w) % 256 * 2 ^ (8 * w) + x) (number-bytes_of w n)
    ∙ sym (mod-pow-add n 8 (8 * w))
    ∙ ap (λ x. n % 2 ^ x) (omega arith)

pub number_lt : (bs : List ℕ) → Bytes bs → number bs < 2 ^ (8 * length bs)
number_lt [] h = omega arith
number_lt (b ∷ bs) h =
    let k : ℕ = 8 * length bs in
    let e : 2 ^ (8 * suc (length bs)) ≡ 2 ^ k * 256 =
    ap (λ x. 2 ^ x) (omega arith) ∙ pow-add 2 k 8 in
    rw e (mul-add-lt b (2 ^ k) (number bs) 256 h.0 (number_lt bs h.1))

-- one byte more at the end
pub number_push : (bs : List ℕ) (b : ℕ) → number (bs ++ b ∷ []) ≡ number bs * 256 + b
number_push [] b = omega arith
number_push (x ∷ bs) b =
    let k : ℕ = 8 * length bs in
    let longer : 8 * length (bs ++ b ∷ []) ≡ k + 8 = let l = length_push bs b in omega (arith, l) in
    let wide : 2 ^ (8 * length (bs ++ b ∷ [])) ≡ 2 ^ k * 256 =
    ap (λ i. 2 ^ i) longer ∙ pow-add 2 k 8 in
    let head : x * (2 ^ k * 256) ≡ x * 2 ^ k * 256 = sym (mul_assoc x (2 ^ k) 256) in
    let both = add-mul (x * 2 ^ k) (number bs) 256 in
    ap (λ y. x * y + number (bs ++ b ∷ [])) wide
    ∙ ap (λ y. x * (2 ^ k * 256) + y) (number_push bs b)
    ∙ omega (arith, head, both)

pub room : (i : ℕ) → i < 7 → 2 ^ (8 * i) ≤ 2 ^ 48
room i p = pow-le-pow_right {n = 2} (omega arith) {i = 8 * i} {j = 48} (omega arith)

pub same_number : (xs ys : List ℕ) → length xs ≡ length ys → Bytes xs → Bytes ys
    → number xs ≡ number ys → xs ≡ ys
same_number [] [] l p q e = refl
same_number [] (y ∷ ys) l p q e = absurd (omega arith)
same_number (x ∷ xs) [] l p q e = absurd (omega arith)
same_number (x ∷ xs) (y ∷ ys) l p q e =
    let k : ℕ = 8 * length xs in
    let m : length xs ≡ length ys = omega arith in
    let small : number ys < 2 ^ k = rw m (number_lt ys q.1) in
    let whole : x * 2 ^ k + number xs ≡ y * 2 ^ k + number ys =
    e ∙ ap (λ l. y * 2 ^ (8 * l) + number ys) (sym m) in
    let high : x ≡ y =
    sym (shr_high x k (number xs) (number_lt xs p.1)) ∙ ap (λ z. z / 2 ^ k) whole
    ∙ shr_high y k (number ys) small in
    let low : number xs ≡ number ys =
    sym (mod_low x k (number xs) (number_lt xs p.1)) ∙ ap (λ z. z % 2 ^ k) whole
    ∙ mod_low y k (number ys) small in
    ap (λ z. z ∷ xs) high ∙ ap (λ zs. y ∷ zs) (same_number xs ys m p.1 q.1 low)

bytes_of-number : (bs : List ℕ) → Bytes bs → bytes_of (length bs) (number bs) ≡ bs
bytes_of-number bs h =
    same_number (bytes_of (length bs) (number bs)) bs (length-bytes_of (length bs) (number bs))
    (bytes_bytes_of (length bs) (number bs)) h
    (number-bytes_of (length bs) (number bs) ∙ mod-eq_of_lt (number_lt bs h))

-- the library's bytes of a number, highest first, are these
byte_is : (w n : ℕ) → byte_at w n ≡ n / 2 ^ (8 * w) % 256
byte_is zero n = omega arith
byte_is (suc w) n = ap (λ x. n / x % 256) (pow-mul 2 8 (suc w))

high_first : (w n : ℕ) → bytes_high_first w n ≡ bytes_of w n
high_first zero n = refl
high_first (suc w) n = λ i. byte_is w n i ∷ high_first w n i

-- and the lowest of them come last
pub lowest : (k w n : ℕ) → drop k (bytes_high_first (k + w) n) ≡ bytes_of w n
lowest zero w n = let e : zero + w ≡ w = omega arith in
    ap (λ j. bytes_high_first j n) e ∙ high_first w n
lowest (suc k) w n = let e : suc k + w ≡ suc (k + w) = omega arith in
    ap (λ j. drop (suc k) (bytes_high_first j n)) e ∙ lowest k w n

-- the number of w bytes, in w bytes
pub there_and_back : (w : ℕ) (bs : List ℕ) → length bs ≡ w → Bytes bs → bytes_of w (number bs) ≡ bs
there_and_back w bs e h = ap (λ l. bytes_of l (number bs)) (sym e) ∙ bytes_of-number bs h
