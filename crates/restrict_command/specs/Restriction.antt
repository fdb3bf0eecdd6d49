-- What a restriction leaves: the capability thinned in the family, or a refusal.
use Rattle.std.specs.Prelude.{ℕ, List, Ok, Result}
use Rattle.refusal.specs.Chains.{unless, and_then, refused_as}
use Rattle.refusal.specs.declared.Refusal.{Refusal}
use Rattle.family.specs.Kinds.{family_over}
use Rattle.family.specs.Modulus.{is_lawful}
use Rattle.family.specs.Refusals.{family_refusal}
use Rattle.family.specs.declared.error.FamilyRefusal.TheVariants.{ModulusOutOfRange}
use Rattle.holder.specs.Dropping.{thin_to}
use Rattle.holder.specs.Refusals.{holder_refusal}
use Rattle.holder.specs.declared.capability.Capability.{Capability}
use Rattle.restrict_command.specs.Words.{restriction_in}
use Rattle.restrict_command.specs.declared.error.Failure.{Failure}
use Rattle.restrict_command.specs.declared.error.Failure.TheVariants.{Misused, Refused}
use Rattle.restrict_command.specs.declared.report.Report.{Report}
use Rattle.restrict_command.specs.declared.restriction.Restriction.{Restriction}

abbrev pub rest_of : Restriction → Result Capability Refusal
rest_of r =
    unless (is_lawful r.modulus) (family_refusal ModulusOutOfRange)
    (refused_as holder_refusal
    (thin_to (family_over r.family r.modulus) r.capability r.mask.bits))

-- the report on the four words of a command
abbrev pub report_on : List ℕ → List ℕ → List ℕ → List ℕ → Result Report Failure
report_on l n c m =
    and_then (refused_as Misused (restriction_in l n c m)) (λ r.
    and_then (refused_as Refused (rest_of r)) (λ rest.
    Ok (record { whole = r.capability; rest = rest })))
