-- The answer line of what is told, or of a refusal.
use Rattle.std.specs.Prelude.{ℕ, List, [], take, decimal, Ok, Err, Result}
use Rattle.refusal.specs.declared.Refusal.{Refusal}
use Rattle.holder.specs.Layout.{capability_bytes}
use Rattle.memory.specs.Held.{content}
use Rattle.memory.specs.declared.memory.Memory.{Memory}
use Rattle.store.specs.Values.{told_in}
use Rattle.store.specs.Requests.{Told, granted, the_bytes, the_size, found, the_name, done}
use Rattle.store.specs.declared.request.Answer.{Answer}
use Rattle.text.specs.Hex.{hex_text}
use Rattle.text.specs.RefusalLine.{refusal_line}
use Rattle.lines.specs.AnswerLine.{ok_line}

abbrev pub told_line : Result Told Refusal → List ℕ
told_line (Ok (granted c)) = ok_line (hex_text (capability_bytes c))
told_line (Ok (the_bytes bs)) = ok_line (take 255 bs)
told_line (Ok (the_size n)) = ok_line (decimal n)
told_line (Ok (found c)) = ok_line (hex_text (capability_bytes c))
told_line (Ok (the_name bs)) = ok_line (take 255 bs)
told_line (Ok done) = ok_line []
told_line (Err refusal) = refusal_line refusal

-- an answer of the store, told by what memory holds
abbrev pub told_from : Memory → Result Answer Refusal → Result Told Refusal
told_from memory (Ok answer) = Ok (told_in (content memory) answer)
told_from memory (Err refusal) = Err refusal
