-- What the refusals of this layer come to.
use Rattle.refusal.specs.declared.Refusal.{Refusal}
use Rattle.refusal.specs.declared.Layer.TheVariants.{Line}
use Rattle.lines.specs.declared.error.LineRefusal.{LineRefusal}
use Rattle.lines.specs.declared.error.Misread.{Misread}
use Rattle.lines.specs.declared.error.LineRefusal.TheVariants.{ShortBuffer, BadLine, EmptyPocket}

abbrev pub line_refusal : LineRefusal → Refusal
line_refusal ShortBuffer = record { number = 32; layer = Line; place = 0 }
line_refusal (BadLine word) = record { number = 30; layer = Line; place = word }
line_refusal (EmptyPocket word) = record { number = 31; layer = Line; place = word }

-- a misread line as a refusal
abbrev pub bad_line : Misread → LineRefusal
bad_line misread_at = BadLine misread_at.place
