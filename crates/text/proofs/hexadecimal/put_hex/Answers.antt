use Rattle.std.proofs.Common.{◌≡◌, length, Some, sym, refl, ◌∙◌, arith, rules}
use Rattle.std.proofs.lemmas.Bool.{cond-true}
use Rattle.std.proofs.lemmas.List.Edits.{paste_all}
use Rattle.std.proofs.lemmas.Slice.{put_mid-paste}
use Rattle.text.specs.Hex.{hex_text}
use Rattle.text.specs.Put.{end_of}
use Rattle.text.proofs.Chosen.{chosen}
use Rattle.text.proofs.Pairs.{length-hex_text, written_read}
use Rattle.text.proofs.hexadecimal.put_hex.Goals as goal

pub returns-in_err-end : goal.returns-in_err-end
returns-in_err-end c =
    let bytes = c.args.bytes.now in
    let size = length-hex_text bytes in
    record {
      end = search rules;
      buffer = search rules;
      read_again = written_read bytes (λ i. omega (arith, c.type_inv.bytes i));
    }

pub returns : goal.returns
returns c =
    let out = c.args.out.now in
    let at = c.args.at in
    let bytes = c.args.bytes.now in
    let size = length-hex_text bytes in
    let written = c.encode.ensures in
    let gives : Some c.in_ok-end.end ≡ end_of out at (hex_text bytes) = search rules in
    let room = chosen _ _ _ gives in
    let end = room.1 in
    record {
      end = gives;
      buffer =
          put_mid-paste at _ out _ (hex_text bytes) (length (hex_text bytes)) written (omega arith)
          refl
          ∙ paste_all out at (hex_text bytes) (length (hex_text bytes)) refl
          ∙ sym (cond-true _ _ _ room.0);
      read_again = written_read bytes (λ i. omega (arith, c.type_inv.bytes i));
    }
