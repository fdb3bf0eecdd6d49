-- What the refusals of this layer come to.
use Rattle.refusal.specs.declared.Refusal.{Refusal}
use Rattle.refusal.specs.declared.Layer.TheVariants.{Family}
use Rattle.family.specs.declared.error.FamilyRefusal.{FamilyRefusal}
use Rattle.family.specs.declared.error.FamilyRefusal.TheVariants.{ModulusOutOfRange}

abbrev pub family_refusal : FamilyRefusal → Refusal
family_refusal ModulusOutOfRange = record { number = 4; layer = Family; place = 0 }
