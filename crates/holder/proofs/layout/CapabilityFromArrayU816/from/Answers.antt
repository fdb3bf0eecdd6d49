use Rattle.std.proofs.Common.{◌≡◌, length, rules}
use Rattle.holder.proofs.ByteFacts.{Bytes}
use Rattle.holder.proofs.RoundTrips.{middle_three, last_six, parts_spelled, written_back}
use Rattle.holder.proofs.layout.CapabilityFromArrayU816.from.Goals as goal

pub returns : goal.returns
returns c =
    let bs = c.args.bytes in
    let sixteen : length bs ≡ 16 = search rules in
    let small : Bytes (middle_three bs) = search rules in
    let bytes : Bytes (last_six bs) = search rules in
    let o = c.from_bytes.result in
    let x = c.from_bytes-2.result in (
      parts_spelled bs sixteen o x c.from_bytes.ensures c.from_bytes-2.ensures,
      written_back bs
          sixteen o x c.from_bytes.ensures c.from_bytes-2.ensures small bytes,
    )
