use Rattle.std.proofs.Common.{rules}
use Rattle.text.proofs.Decoded.{decoded_into, decoded_read}
use Rattle.text.proofs.hexadecimal.decode.Goals as goal

pub returns-in_err-ok : goal.returns-in_err-ok
returns-in_err-ok g c =
    let read = decoded_read g.row.N c.args.word.now c.requires in
    let into = decoded_into _ c.decode_to_slice.result c.decode_to_slice.new.out
    c.decode_to_slice.ensures.value in
    search (rules, read, into)

pub returns : goal.returns
returns g c =
    let read = decoded_read g.row.N c.args.word.now c.requires in
    let into = decoded_into _ c.decode_to_slice.result c.decode_to_slice.new.out
    c.decode_to_slice.ensures.value in
    search (rules, read, into)
