-- The four words of the command, read: the family, its modulus, the capability and the mask.
use Rattle.std.specs.Prelude.{ℕ, List, [], ◌∷◌, None, Ok, Option, Result, slice_index}
use Rattle.refusal.specs.Chains.{given}
use Rattle.family.specs.Kinds.{kind_of}
use Rattle.family.specs.declared.family_kind.FamilyKind.{FamilyKind}
use Rattle.holder.specs.Layout.{capability_of}
use Rattle.text.specs.Decimal.{read_decimal}
use Rattle.text.specs.Hex.{read_hex}
use Rattle.restrict_command.specs.declared.error.Misuse.{Misuse}
use Rattle.restrict_command.specs.declared.error.Misuse.TheVariants.{BadLetter, BadModulus, BadCapability, BadMask}
use Rattle.restrict_command.specs.declared.restriction.Restriction.{Restriction}

-- the family whose letter stands alone in the word
abbrev pub family_in : List ℕ → Option FamilyKind
family_in (letter ∷ []) = kind_of letter
family_in other = None

-- the restriction, or the first word from the left that cannot be read
abbrev pub restriction_in : List ℕ → List ℕ → List ℕ → List ℕ → Result Restriction Misuse
restriction_in l n c m =
    given (family_in l) BadLetter (λ family.
    given (read_decimal n) BadModulus (λ modulus.
    given (read_hex 16 c) BadCapability (λ capability.
    given (read_hex 1 m) BadMask (λ mask.
    Ok (record {
      family = family;
      modulus = modulus;
      capability = capability_of capability;
      mask = record { bits = slice_index mask 0 };
    })))))
