use Rattle.std.proofs.Common.{◌≡◌, ◌+◌, ◌*◌, ◌^◌, ◌<◌, sym, ap, ◌∙◌, take, slice_index_or, rules, arith, pow-add}
use Rattle.std.proofs.lemmas.List.{take_more}
use Rattle.std.proofs.lemmas.Nat.{mul-add-lt}
use Rattle.holder.specs.Bytes.{number}
use Rattle.holder.proofs.ByteFacts.{number_push, room}
use Rattle.holder.proofs.bytes.number_of.Goals as goal

pub overflow_mul-n : goal.overflow_mul-n
overflow_mul-n g c = omega (arith, c.loop-b.invariant.1, room c.loop-b.b-index (omega arith))

pub loop-b-preserved : goal.loop-b-preserved
loop-b-preserved g c =
    let bytes = c.args.bytes.now in
    let i = c.loop-b.b-index in
    let byte : slice_index_or bytes i 0 < 256 = search rules in
    let wide : 2 ^ (8 * (i + 1)) ≡ 2 ^ (8 * i) * 256 =
    ap (λ x. 2 ^ x) (omega arith) ∙ pow-add 2 (8 * i) 8 in
    let below =
    mul-add-lt c.loop-b.n 256 c.from.result (2 ^ (8 * i)) c.loop-b.invariant.1
    (rw c.from.ensures byte) in (
      ap (λ x. x * 256 + c.from.result) c.loop-b.invariant.0
          ∙ ap (λ y. number (take i bytes) * 256 + y) c.from.ensures
          ∙ sym (number_push (take i bytes) (slice_index_or bytes i 0))
          ∙ sym (ap number (take_more bytes i 0 (omega arith))),
      omega (arith, wide, below),
    )
