-- A value that is there just where a test holds.
use Rattle.std.proofs.Common.{◌≡◌, ℕ, Bool, true, false, cond, Some, None, refl, arith}

pub chosen : {A : Type 0} (b : Bool) (x y : A) → Some y ≡ cond b (Some x) None
    → (b ≡ true) × (x ≡ y)
chosen true x y e = (refl, cc)
chosen false x y e = absurd (let z : ◌≡◌ {A = ℕ} 0 1 = cc in omega arith)
