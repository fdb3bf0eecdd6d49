use Rattle.std.proofs.Common.{◌≡◌, ◌++◌, ◌-◌, ap, ◌∙◌, arith, length, min, take}
use Rattle.console.specs.Reading.{line_bytes}
use Rattle.console.proofs.LineFacts.{take_room}
use Rattle.console.proofs.line.Line.add.Goals as goal

pub returns : goal.returns
returns c =
    let before = line_bytes c.args.self.now in
    let bytes = c.args.bytes.now in
    let added : c.try_extend_from_slice.new.self.items ≡ before ++ take c.min-taken.result bytes =
    rw c.unwrap.ensures at c.try_extend_from_slice.ensures.ok in
    let room : c.min-taken.result ≡ min (256 - length before) (length bytes) = omega arith in
    added ∙ ap (λ n. before ++ take n bytes) room ∙ take_room 256 before bytes (omega arith)
