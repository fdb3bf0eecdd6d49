-- What the refusals of this layer come to.
use Rattle.refusal.specs.declared.Refusal.{Refusal}
use Rattle.refusal.specs.declared.Layer.TheVariants.{Holder}
use Rattle.holder.specs.declared.error.HolderRefusal.{HolderRefusal}
use Rattle.holder.specs.declared.error.HolderRefusal.TheVariants.{WrongLength, NoSuchRight, CheckTooLarge}

abbrev pub holder_refusal : HolderRefusal → Refusal
holder_refusal WrongLength = record { number = 5; layer = Holder; place = 0 }
holder_refusal NoSuchRight = record { number = 8; layer = Holder; place = 0 }
holder_refusal CheckTooLarge = record { number = 9; layer = Holder; place = 0 }
