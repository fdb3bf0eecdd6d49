use Rattle.std.proofs.Common.{◌≡◌, ◌∷◌, ◌++◌, length, sym, ap, ◌∙◌, rules}
use Rattle.holder.specs.Layout.{read_capability}
use Rattle.holder.proofs.RoundTrips.{at, written_spelled, read_written}
use Rattle.holder.proofs.layout.ArrayU816FromCapability.from.Goals as goal

pub returns : goal.returns
returns c =
    let own = c.args.c in
    let six : length own.port.bytes ≡ 6 = search rules in
    let spelled =
    (λ i. at own.port.bytes 6
    ++ (at (c.bytes.ensures i) 3 ++ (own.rights.bits ∷ at (c.bytes-2.ensures i) 6)))
    ∙ sym (written_spelled own six) in
    (spelled, ap read_capability spelled ∙ read_written own six)
