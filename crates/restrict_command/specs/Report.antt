-- The report on a capability and on the one that is left of it, and the reasons why there is none.
use Rattle.std.specs.Prelude.{ℕ, zero, suc, ◌+◌, if◌then◌else◌, List, [], ◌∷◌, ◌++◌, codes, decimal, ◌==◌}
use Rattle.family.specs.Rights.{has_right}
use Rattle.holder.specs.Dropping.{lost_rights}
use Rattle.holder.specs.Layout.{capability_bytes}
use Rattle.holder.specs.declared.capability.Capability.{Capability}
use Rattle.text.specs.Hex.{hex_text}
use Rattle.text.specs.RefusalLine.{refusal_line}
use Rattle.restrict_command.specs.declared.error.Failure.{Failure}
use Rattle.restrict_command.specs.declared.error.Failure.TheVariants.{Misused, Refused}
use Rattle.restrict_command.specs.declared.error.Misuse.{Misuse}
use Rattle.restrict_command.specs.declared.error.Misuse.TheVariants.{BadLetter, BadModulus, BadCapability, BadMask}

-- the numbers of the rights below k that are in the set, each behind a space
unfoldable pub rights_below : ℕ → ℕ → List ℕ
rights_below set zero = []
rights_below set (suc k) =
    rights_below set k ++ (if has_right set k then 32 ∷ ((48 + k) ∷ []) else [])

-- the same of all rights in the set, or " none"
abbrev pub rights_text : ℕ → List ℕ
rights_text set = if set == 0 then codes " none" else rights_below set 8

-- port, object and rights of the capability given, the rights dropped, and the capability left
abbrev pub report_text : Capability → Capability → List ℕ
report_text whole rest =
    codes "port " ++ (hex_text whole.port.bytes
    ++ (codes "\nobject " ++ (decimal whole.object.value
    ++ (codes "\nrights" ++ (rights_text whole.rights.bits
    ++ (codes "\ndropped" ++ (rights_text (lost_rights whole.rights.bits rest.rights.bits)
    ++ (codes "\n" ++ (hex_text (capability_bytes rest) ++ codes "\n")))))))))

-- the form that a word should have
abbrev pub misuse_text : Misuse → List ℕ
misuse_text BadLetter = codes "LETTER is P or D"
misuse_text BadModulus = codes "MODULUS is a decimal of 1 to 15 digits, with no zero in front"
misuse_text BadCapability = codes "CAPABILITY is 32 hexadecimal digits, in small letters"
misuse_text BadMask = codes "MASK is 2 hexadecimal digits, in small letters"

abbrev pub failure_text : Failure → List ℕ
failure_text (Misused misuse) = misuse_text misuse
failure_text (Refused refusal) = refusal_line refusal
