use Rattle.std.proofs.Common.{arith, rules}
use Rattle.text.proofs.Encoded.{encode_lower-hex_text}
use Rattle.text.proofs.hexadecimal.encode.Goals as goal

pub returns : goal.returns
returns c =
    let text = encode_lower-hex_text c.args.bytes.now (λ i. omega (arith, c.type_inv.bytes i)) in
    search (rules, text)
