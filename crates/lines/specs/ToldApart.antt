-- Answer lines that tell their answers apart.
use Rattle.std.specs.Prelude.{◌≡◌, ℕ, ◌<◌, ◌^◌, List, length, All, ⊤}
use Rattle.refusal.specs.declared.Refusal.{Refusal}
use Rattle.lines.specs.AnswerLine.{answer_line}
use Rattle.lines.specs.declared.answer.Answer.{Answer}
use Rattle.lines.specs.declared.answer.Answer.TheVariants.{Done, Capability, Bytes, Number, Refused}

-- no other capability, number or refusal has this line; bytes are told apart up to the 255 that a
-- line shows
abbrev pub TellsApart : Answer → Type 0
TellsApart Done = ⊤
TellsApart (Capability bytes) =
    (other : List ℕ) → length other ≡ 16 → All (λ b. b < 256) other
    → answer_line (Capability other) ≡ answer_line (Capability bytes) → other ≡ bytes
TellsApart (Bytes bytes) = ⊤
TellsApart (Number n) =
    (other : ℕ) → other < 2 ^ 64 → answer_line (Number other) ≡ answer_line (Number n) → other ≡ n
TellsApart (Refused refusal) =
    (other : Refusal) → other.number < 256 → other.place < 256
    → answer_line (Refused other) ≡ answer_line (Refused refusal) → other ≡ refusal
