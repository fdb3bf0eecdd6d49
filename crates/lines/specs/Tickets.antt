-- What taking a line and writing its answer come to.
use Rattle.std.specs.Prelude.{◌≡◌, ℕ, Bool, true, false, if◌then◌else◌, List, length, nat_le, MatchResult, Result}
use Rattle.std.specs.Borrow.{MutBor}
use Rattle.lines.specs.AnswerLine.{answer_line, line_over}
use Rattle.lines.specs.declared.answer.Answer.{Answer}
use Rattle.lines.specs.declared.error.LineRefusal.{LineRefusal}
use Rattle.lines.specs.declared.error.LineRefusal.TheVariants.{ShortBuffer}
use Rattle.lines.specs.declared.desk.Desk.{Desk}
use Rattle.lines.specs.declared.ticket.Ticket.{Ticket}
use Rattle.lines.specs.declared.ticket.Kept.{Kept}

-- the buffer is long enough for any answer line
abbrev pub is_roomy : List ℕ → Bool
is_roomy out = nat_le 320 (length out)

-- the ticket for this line at this desk
abbrev pub IsFor : Ticket → MutBor Desk → List ℕ → Type 0
IsFor ticket desk line = (ticket.desk.ghost_name ≡ desk.ghost_name) × (ticket.line.now ≡ line)

-- a ticket for the line where the buffer is long enough, and else a refusal
abbrev pub Takes : MutBor Desk → List ℕ → List ℕ → Result Ticket LineRefusal → Type 0
Takes desk line out r =
    MatchResult r (λ ticket. (is_roomy out ≡ true) × IsFor ticket desk line)
    (λ e. (is_roomy out ≡ false) × (e ≡ ShortBuffer))

-- the length of the answer line where the buffer is long enough, and else the same ticket with a
-- refusal
abbrev pub Answers : Ticket → List ℕ → Answer → Result ℕ Kept → Type 0
Answers ticket out answer r =
    MatchResult r (λ end. (is_roomy out ≡ true) × (end ≡ length (answer_line answer)))
    (λ kept. (is_roomy out ≡ false) × (kept.refusal ≡ ShortBuffer)
    × IsFor kept.ticket ticket.desk ticket.line.now)

-- the buffer with the answer line at its front, where it is long enough, and else as it was
abbrev pub answer_over : Answer → List ℕ → List ℕ
answer_over answer out = if is_roomy out then line_over (answer_line answer) out else out
