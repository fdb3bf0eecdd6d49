-- Lines read in parts, and what is left of the bytes behind each part.
use Rattle.std.proofs.Common.{◌≡◌, ◌≢◌, ℕ, zero, suc, ◌+◌, ◌<◌, ◌≤◌, min, ◌-◌, Bool, true, false, not, nat_eq, List, [], ◌∷◌, ◌++◌, None, Some, Option, IfSome, cond, eqb, get_or, length, take, drop, refl, sym, ap, ◌∙◌, arith, eq-eqb, ne_eqb, take_all, take-append-drop, append-nil, append_assoc}
use Rattle.std.proofs.Math.Seq.{drop-cons, take-append-add}
use Rattle.std.proofs.lemmas.List.{take_min}
use Rattle.std.specs.Io.{StartsWith}
use Rattle.std.specs.Io.KnownBytes.{Keeps}
use Rattle.std.specs.Io.BufRead.{DropsConsumable}
use Rattle.text.specs.Lines.{behind, is_any, line_in}
use Rattle.console.specs.Lines.{line_front}
use Rattle.console.specs.Reading.{ReadsOn, next_behind, next_line, to_come}

-- ---- the first line of some bytes

-- a line feed ends it
pub line_ends_at : (xs : List ℕ) (i : ℕ) → i < length xs → get_or xs i 0 ≡ 10
    → length (line_in (drop i xs)) ≡ 0
line_ends_at xs i within feed =
    ap (λ l. length (line_in l)) (drop-cons xs i 0 within)
    ∙ ap (λ b. length (cond b [] (get_or xs i 0 ∷ line_in (drop (suc i) xs))))
    (eq-eqb (get_or xs i 0) 10 feed)

-- and no other byte does
pub line_goes_past : (xs : List ℕ) (i : ℕ) → i < length xs → get_or xs i 0 ≢ 10
    → length (line_in (drop i xs)) ≡ suc (length (line_in (drop (suc i) xs)))
line_goes_past xs i within other =
    ap (λ l. length (line_in l)) (drop-cons xs i 0 within)
    ∙ ap (λ b. length (cond b [] (get_or xs i 0 ∷ line_in (drop (suc i) xs))))
    (ne_eqb (get_or xs i 0) 10 other)

-- it is the front of the bytes
pub line_in_front : (xs : List ℕ) → take (length (line_in xs)) xs ≡ line_in xs
line_in_front [] = refl
line_in_front (x ∷ xs) = at (eqb x 10) (line_in_front xs)
  where
    at : (b : Bool) → take (length (line_in xs)) xs ≡ line_in xs
        → take (length (cond b [] (x ∷ line_in xs))) (x ∷ xs) ≡ cond b [] (x ∷ line_in xs)
    at true front = refl
    at false front = ap (λ l. x ∷ l) front

-- where it is all of them, it goes on in the bytes behind them
pub line_goes_on : (xs ys : List ℕ) → length (line_in xs) ≡ length xs
    → (line_in (xs ++ ys) ≡ xs ++ line_in ys) × (behind (xs ++ ys) ≡ behind ys)
line_goes_on [] ys whole = (refl, refl)
line_goes_on (x ∷ xs) ys whole = at (eqb x 10) (line_goes_on xs ys) whole
  where
    at : (b : Bool) → (length (line_in xs) ≡ length xs
        → (line_in (xs ++ ys) ≡ xs ++ line_in ys) × (behind (xs ++ ys) ≡ behind ys))
        → length (cond b [] (x ∷ line_in xs)) ≡ suc (length xs)
        → (cond b [] (x ∷ line_in (xs ++ ys)) ≡ x ∷ (xs ++ line_in ys))
        × (cond b (xs ++ ys) (behind (xs ++ ys)) ≡ behind ys)
    at true next none = absurd (omega arith)
    at false next same = let (line, rest) = next (omega arith) in (ap (λ l. x ∷ l) line, rest)

-- and where it is not, it has its line feed among them
pub line_ends : (xs ys : List ℕ) → length (line_in xs) < length xs
    → (line_in (xs ++ ys) ≡ line_in xs)
    × (behind (xs ++ ys) ≡ drop (suc (length (line_in xs))) (xs ++ ys))
line_ends [] ys part = absurd (omega arith)
line_ends (x ∷ xs) ys part = at (eqb x 10) (line_ends xs ys) part
  where
    at : (b : Bool) → (length (line_in xs) < length xs
        → (line_in (xs ++ ys) ≡ line_in xs)
        × (behind (xs ++ ys) ≡ drop (suc (length (line_in xs))) (xs ++ ys)))
        → length (cond b [] (x ∷ line_in xs)) < suc (length xs)
        → (cond b [] (x ∷ line_in (xs ++ ys)) ≡ cond b [] (x ∷ line_in xs))
        × (cond b (xs ++ ys) (behind (xs ++ ys))
        ≡ drop (suc (length (cond b [] (x ∷ line_in xs)))) (x ∷ (xs ++ ys)))
    at true next less = (refl, refl)
    at false next less = let (line, rest) = next (omega arith) in (ap (λ l. x ∷ l) line, rest)

-- ---- what is kept of a line

-- what was cut is cut again with what follows
pub take_again : (n : ℕ) (xs ys : List ℕ) → take n (take n xs ++ ys) ≡ take n (xs ++ ys)
take_again zero xs ys = refl
take_again (suc n) [] ys = refl
take_again (suc n) (x ∷ xs) ys = ap (λ l. x ∷ l) (take_again n xs ys)

-- as much as there is room for
pub take_room : (n : ℕ) (xs ys : List ℕ) → length xs ≤ n
    → xs ++ take (min (n - length xs) (length ys)) ys ≡ take n (xs ++ ys)
take_room n xs ys fits =
    let all : length xs + (n - length xs) ≡ n = omega arith in
    ap (λ l. xs ++ l) (take_min (n - length xs) ys) ∙ sym (take-append-add xs ys (n - length xs))
    ∙ ap (λ k. take k (xs ++ ys)) all

any_again : (xs ys : List ℕ) → is_any (line_front xs ++ ys) ≡ is_any (xs ++ ys)
any_again [] ys = refl
any_again (x ∷ xs) ys = refl

any_of_more : (xs ys zs : List ℕ) → 0 < length ys → is_any (xs ++ (ys ++ zs)) ≡ true
any_of_more [] [] zs some = absurd (omega arith)
any_of_more [] (y ∷ ys) zs some = refl
any_of_more (x ∷ xs) ys zs some = refl

any_by_length : (xs : List ℕ) → not (nat_eq (length xs) 0) ≡ is_any (xs ++ [])
any_by_length [] = refl
any_by_length (x ∷ xs) = ap not (ne_eqb (suc (length xs)) 0 (λ e. omega arith))

-- ---- readings

same_reading : {any any' : Bool} {line line' rest rest' : List ℕ} → any ≡ any' → line ≡ line'
    → rest ≡ rest' → next_line any line rest ≡ next_line any' line' rest'
same_reading {any} {any'} {line} {line'} {rest} {rest'} a l r =
    ap (λ x. next_line x line rest) a ∙ ap (λ x. next_line any' x rest) l
    ∙ ap (λ x. next_line any' line' x) r

drop_front : (xs ys : List ℕ) → drop (length xs) (xs ++ ys) ≡ ys
drop_front [] ys = refl
drop_front (x ∷ xs) ys = drop_front xs ys

-- a part with no line feed
pub part_read : (before part rest : List ℕ) → length (line_in part) ≡ length part
    → to_come None (line_front (before ++ part)) (drop (length part) (part ++ rest))
    ≡ next_behind before (part ++ rest)
part_read before part rest whole =
    let (line, left) = line_goes_on part rest whole in
    ap (next_behind (line_front (before ++ part))) (drop_front part rest)
    ∙ same_reading (any_again (before ++ part) rest ∙ ap is_any (append_assoc before part rest))
    (take_again 256 (before ++ part) (line_in rest)
    ∙ ap line_front (append_assoc before part (line_in rest)
    ∙ ap (λ l. before ++ l) (sym line))) (sym left)

-- a part with one
pub line_read : (before part rest : List ℕ) → length (line_in part) < length part
    → to_come (Some true) (line_front (before ++ line_in part))
    (drop (suc (length (line_in part))) (part ++ rest)) ≡ next_behind before (part ++ rest)
line_read before part rest some =
    let (line, left) = line_ends part rest some in
    same_reading (sym (any_of_more before part rest (omega arith)))
    (ap (λ l. line_front (before ++ l)) (sym line)) (sym left)

-- no more bytes
pub end_read : (was is : Option (List ℕ)) (shown line : List ℕ) (empty : Bool) → length shown ≡ 0
    → length line ≤ 256 → empty ≡ nat_eq (length line) 0
    → IfSome was (λ xs. length shown ≡ 0 → xs ≡ []) → Keeps was is
    → ReadsOn was is (Some (not empty)) line line
end_read None is shown line empty none fits tells end bytes_of = tt
end_read (Some xs) None shown line empty none fits tells end bytes_of = absurd bytes_of
end_read (Some xs) (Some ys) shown line empty none fits tells end bytes_of =
    ap Some (same_reading (ap not tells ∙ any_by_length line)
    (sym (ap line_front (append-nil line) ∙ take_all 256 line fits)) (bytes_of ∙ end none))
    ∙ ap (λ l. Some (next_behind line l)) (sym (end none))

-- what is consumed of the bytes that were shown
pub consumed : (was shows is : Option (List ℕ)) (most : Option ℕ) (shown before after : List ℕ)
    (end : Option Bool) (n : ℕ) → n ≤ length shown
    → IfSome was (λ xs. StartsWith xs shown) → Keeps was shows
    → IfSome was (λ xs. IfSome most (λ k. length shown ≤ k)) → DropsConsumable shows is most n
    → ((rest : List ℕ) → to_come end after (drop n (shown ++ rest))
    ≡ next_behind before (shown ++ rest)) → ReadsOn was is end before after
consumed None shows is most shown before after end n within front bytes_of fits drops reads = tt
consumed (Some xs) None is most shown before after end n within front bytes_of fits drops reads =
    absurd bytes_of
consumed (Some xs) (Some ys) is most shown before after end n within front bytes_of fits drops
    reads =
    at is (drops (room most fits))
  where
    room : (most : Option ℕ) → IfSome most (λ k. length shown ≤ k) → IfSome most (λ k. n ≤ k)
    room None h = tt
    room (Some k) h = omega arith

    split : xs ≡ shown ++ drop (length shown) xs
    split = sym (take-append-drop (length shown) xs) ∙ ap (λ l. l ++ drop (length shown) xs) front

    at : (is : Option (List ℕ)) → is ≡ Some (drop n ys) → ReadsOn (Some xs) is end before after
    at is dropped = rw dropped
        (ap (λ l. Some (to_come end after (drop n l))) (bytes_of ∙ split)
        ∙ ap Some (reads (drop (length shown) xs))
        ∙ ap (λ l. Some (next_behind before l)) (sym split))
