-- Worked figures, about the functions that the two families give.
use Rattle.std.specs.Prelude.{◌≡◌, ℕ, List, [], ◌∷◌}
use Rattle.family.specs.Fit.{IsFit}
use Rattle.family.specs.declared.powers.Powers.{Powers}
use Rattle.family.specs.declared.dickson.Dickson.{Dickson}
use Rattle.family.specs.contracts.powers.PowersCommutingFamily.TheImpl.{ghosts as in_powers}
use Rattle.family.specs.contracts.dickson.DicksonCommutingFamily.TheImpl.{ghosts as in_dickson}

pub data Figure : Type 0 where
  -- over the modulus n, the functions of the listed rights, one after the other, lead from v to w
  powers_lead : (n : ℕ) (rights : List ℕ) (v w : ℕ) → Figure
  dickson_leads : (n : ℕ) (rights : List ℕ) (v w : ℕ) → Figure
  -- over every modulus, s is not fit
  unfit_in_powers : (s : ℕ) → Figure
  unfit_in_dickson : (s : ℕ) → Figure

-- the functions of the listed rights, one after the other
abbrev pub value_after : (ℕ → ℕ → ℕ) → List ℕ → ℕ → ℕ
value_after f [] v = v
value_after f (k ∷ ks) v = value_after f ks (f k v)

abbrev pub Holds : Figure → Type 0
Holds (powers_lead n ks v w) =
    (p : Powers) → (in_powers.meaning p).modulus ≡ n
    → value_after (in_powers.meaning p).function ks v ≡ w
Holds (dickson_leads n ks v w) =
    (d : Dickson) → (in_dickson.meaning d).modulus ≡ n
    → value_after (in_dickson.meaning d).function ks v ≡ w
Holds (unfit_in_powers s) = (p : Powers) → IsFit (in_powers.meaning p) s → ⊥
Holds (unfit_in_dickson s) = (d : Dickson) → IsFit (in_dickson.meaning d) s → ⊥

abbrev pub EachHolds : List Figure → Type 0
EachHolds [] = Unit {0}
EachHolds (x ∷ xs) = Holds x × EachHolds xs

abbrev pub figures : List Figure
figures =
    dickson_leads 101 (0 ∷ []) 3 22
    ∷ dickson_leads 101 (1 ∷ []) 3 56
    ∷ dickson_leads 101 (0 ∷ 1 ∷ []) 3 78
    ∷ dickson_leads 101 (1 ∷ 0 ∷ []) 3 78
    ∷ powers_lead 2147483647 (0 ∷ []) 7 16807
    ∷ powers_lead 2147483647 (1 ∷ []) 7 252246292
    ∷ powers_lead 2147483647 (0 ∷ 1 ∷ []) 7 1784484492
    ∷ powers_lead 2147483647 (1 ∷ 0 ∷ []) 7 1784484492
    ∷ unfit_in_powers 0
    ∷ unfit_in_dickson 0
    ∷ unfit_in_powers 1
    ∷ unfit_in_dickson 2
    ∷ []
