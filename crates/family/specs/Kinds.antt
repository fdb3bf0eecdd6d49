-- The built-in families: the letter of each, and what each means over a modulus.
use Rattle.std.specs.Prelude.{ℕ, if◌then◌else◌, Some, None, Option, ◌==◌}
use Rattle.family.specs.Commuting.{Family}
use Rattle.family.specs.Dickson.{dickson_over}
use Rattle.family.specs.Power.{powers_over}
use Rattle.family.specs.contracts.powers.PowersCommutingFamily.TheImpl.{ghosts as in_powers}
use Rattle.family.specs.contracts.dickson.DicksonCommutingFamily.TheImpl.{ghosts as in_dickson}
use Rattle.family.specs.declared.family_kind.FamilyKind.{FamilyKind}
use Rattle.family.specs.declared.family_kind.FamilyKind.TheVariants.{Powers, Dickson}

-- the letter that the family itself has
abbrev pub letter_of : FamilyKind → ℕ
letter_of Powers = in_powers.LETTER
letter_of Dickson = in_dickson.LETTER

-- the family with this letter
abbrev pub kind_of : ℕ → Option FamilyKind
kind_of letter =
    if letter == letter_of Powers then Some Powers
    else (if letter == letter_of Dickson then Some Dickson else None)

-- the modulus and the functions of a family over n
abbrev pub family_over : FamilyKind → ℕ → Family
family_over Powers n = powers_over n
family_over Dickson n = dickson_over n
