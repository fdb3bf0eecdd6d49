-- The line that says an answer.
use Rattle.std.specs.Prelude.{◌≡◌, ◌==◌, Bool, true, not, List, [], ◌∷◌, ◌++◌, ℕ, length, take, drop, codes, decimal}
use Rattle.std.specs.List.{list_all}
use Rattle.text.specs.Hex.{hex_text}
use Rattle.text.specs.RefusalLine.{refusal_line}
use Rattle.lines.specs.declared.answer.Answer.{Answer}
use Rattle.lines.specs.declared.answer.Answer.TheVariants.{Done, Capability, Bytes, Number, Refused}

-- "ok", and behind a space what there is to show, if anything
abbrev pub ok_line : List ℕ → List ℕ
ok_line [] = codes "ok"
ok_line (b ∷ bs) = codes "ok " ++ (b ∷ bs)

abbrev pub answer_line : Answer → List ℕ
answer_line Done = ok_line []
answer_line (Capability bytes) = ok_line (hex_text bytes)
answer_line (Bytes bytes) = ok_line (take 255 bytes.now)
answer_line (Number n) = ok_line (decimal n)
answer_line (Refused refusal) = refusal_line refusal

-- the line, and behind it what stood there before
abbrev pub line_over : List ℕ → List ℕ → List ℕ
line_over line was = line ++ drop (length line) was

-- no byte is a line feed
abbrev pub is_one_line : List ℕ → Bool
is_one_line bytes = list_all (λ b. not (b == 10)) bytes

-- the bytes that an answer shows as they are
abbrev pub answer_bytes : Answer → List ℕ
answer_bytes Done = []
answer_bytes (Capability bytes) = []
answer_bytes (Bytes bytes) = bytes.now
answer_bytes (Number n) = []
answer_bytes (Refused refusal) = []

-- the answer line is one line, if the bytes that it shows are
abbrev pub StaysOneLine : Answer → Type 0
StaysOneLine answer =
    is_one_line (answer_bytes answer) ≡ true → is_one_line (answer_line answer) ≡ true
