-- What the denials come to, at a place.
use Rattle.std.specs.Prelude.{ℕ}
use Rattle.refusal.specs.declared.Refusal.{Refusal}
use Rattle.refusal.specs.declared.Layer.TheVariants.{Store}
use Rattle.admission.specs.declared.error.Denial.{Denial}
use Rattle.admission.specs.declared.error.Denial.TheVariants.{WrongPort, NoSuchObject, WrongCheck, WrongKind, RightMissing}

abbrev pub denial_number : Denial → ℕ
denial_number WrongPort = 10
denial_number NoSuchObject = 11
denial_number WrongCheck = 12
denial_number RightMissing = 13
denial_number WrongKind = 14

abbrev pub denial_at : Denial → ℕ → Refusal
denial_at e place = record { number = denial_number e; layer = Store; place = place }
