-- A list of known length is its elements, one by one.
use Rattle.std.proofs.Common.{◌≡◌, ℕ, List, map, length, get_or, refl}
use Rattle.std.specs.List.{range_with_len}
use Rattle.std.proofs.lemmas.List.FromFn.{fill_by_all}

pub spelled : (bs : List ℕ) (w : ℕ) → length bs ≡ w
    → bs ≡ map (λ i. get_or bs i 0) (range_with_len 0 w)
spelled bs w e = fill_by_all (λ i. get_or bs i 0) bs w 0 e (λ k h. refl)
