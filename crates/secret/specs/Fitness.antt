-- Fitness of a secret as a test, and what deciding it does to the scratch.
use Rattle.std.specs.Prelude.{ℕ, zero, suc, ◌<◌, Bool, true, if◌then◌else◌, not, ◌&&◌, List, length, replicate, Some, None, Option, ◌==◌, ◌≢◌, nat_lt, slice_index}
use Rattle.family.specs.Commuting.{Family}
use Rattle.family.specs.Rights.{has_right}
use Rattle.family.specs.Thin.{thin}

-- number j differs from each of the first i numbers
unfoldable pub is_new_among : (ℕ → ℕ) → ℕ → ℕ → Bool
is_new_among g j zero = true
is_new_among g j (suc i) = not (g i == g j) && is_new_among g j i

-- the first c numbers are pairwise different
unfoldable pub are_all_apart : (ℕ → ℕ) → ℕ → Bool
are_all_apart g zero = true
are_all_apart g (suc c) = is_new_among g c c && are_all_apart g c

-- s thinned by the set of rights that the byte m stands for
abbrev pub thinned_number : (ℕ → ℕ → ℕ) → ℕ → ℕ → ℕ
thinned_number f s m = thin f s (has_right m)

-- s is fit: it is below n, and its 256 thinned numbers, one for each set of rights, are pairwise
-- different
abbrev pub is_fit : Family → ℕ → Bool
is_fit F s = nat_lt s F.modulus && are_all_apart (thinned_number F.function s) 256

-- what is answered: whether s is fit, and nothing unless the scratch has 256 numbers
abbrev pub fitness_of : Family → ℕ → List ℕ → Option Bool
fitness_of F s scratch = if length scratch == 256 then Some (is_fit F s) else None

-- what is left in the scratch: zeros where it had 256 numbers, and else what it held
abbrev pub scratch_left : List ℕ → List ℕ
scratch_left scratch =
    if length scratch == 256 then replicate (length scratch) 0 else scratch

-- in a list of numbers, the one at j differs from each before it
abbrev pub IsNewAt : List ℕ → ℕ → Type 0
IsNewAt xs j = (i : ℕ) → i < j → slice_index xs i ≢ slice_index xs j

-- and so does each of the first c
abbrev pub AreAllNew : List ℕ → ℕ → Type 0
AreAllNew xs c = (j : ℕ) → j < c → IsNewAt xs j
