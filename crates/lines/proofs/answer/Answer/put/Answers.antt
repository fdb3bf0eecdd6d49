use Rattle.std.proofs.Common.{◌≡◌, ◌<◌, ◌^◌, ◌∙◌, ap, sym, subst, length, min, take, ℕ, List, decimal, arith, rules}
use Rattle.std.proofs.lemmas.List.{length-take}
use Rattle.text.specs.Hex.{hex_text}
use Rattle.text.proofs.Pairs.{length-hex_text}
use Rattle.lines.specs.AnswerLine.{answer_line, ok_line, is_one_line, answer_bytes}
use Rattle.lines.specs.ToldApart.{TellsApart}
use Rattle.lines.proofs.ApartFacts.{capability_apart, number_apart, refusal_apart}
use Rattle.lines.proofs.AnswerFacts.{put_shown, put_refused, decimal_is_short, hex_one_line, take_one_line}
use Rattle.lines.proofs.answer.Answer.put.Goals as goal

pub returns-in_ok-at-in-Capability : goal.returns-in_ok-at-in-Capability
returns-in_ok-at-in-Capability c =
    let bytes = c.in-Capability.bytes in
    let sixteen : length bytes ≡ 16 = search rules in
    let size = length-hex_text bytes in
    let begun = c.in_ok-at-in-Capability.ensures in
    let ended = c.put_hex.ensures in
    let put =
    put_shown c.args.self (hex_text bytes) c.args.out.now _ _ _ _
    (ap answer_line c.in-Capability.is) (omega arith) (omega arith)
    (λ h. hex_one_line bytes) c.requires.roomy begun.end begun.buffer ended.end
    ended.buffer in
    record {
      end = put.end;
      buffer = put.buffer;
      short = put.short;
      one_line =
          put.one_line;
      apart =
          subst TellsApart (sym c.in-Capability.is)
          (capability_apart bytes sixteen ended.read_again);
    }

pub returns-in_ok-at-in-Number : goal.returns-in_ok-at-in-Number
returns-in_ok-at-in-Number c =
    let n = c.in-Number.n in
    let small : n < 2 ^ 64 = search rules in
    let digits = decimal_is_short n small in
    let begun = c.in_ok-at-in-Number.ensures in
    let ended = c.put_decimal.ensures in
    let put =
    put_shown c.args.self (decimal n) c.args.out.now _ _ _ _ (ap answer_line c.in-Number.is)
    digits.some (omega (arith, digits.few)) (λ h. digits.one) c.requires.roomy begun.end
    begun.buffer ended.end ended.buffer in
    record {
      end = put.end;
      buffer = put.buffer;
      short = put.short;
      one_line =
          put.one_line;
      apart = subst TellsApart (sym c.in-Number.is) (number_apart n small);
    }

pub returns-in_ok-at-in-Bytes : goal.returns-in_ok-at-in-Bytes
returns-in_ok-at-in-Bytes c =
    let bytes : List ℕ = c.in-Bytes.bytes.now in
    let shown : List ℕ = c.first_shown.result.now in
    let cut : shown ≡ take 255 bytes = c.first_shown.ensures in
    let some : 0 < length bytes = search rules in
    let size : length shown ≡ min 255 (length bytes) = ap length cut ∙ length-take 255 bytes in
    let begun = c.in_ok-at-in-Bytes.ensures in
    let ended = c.put-in-Bytes-2.ensures in
    let put =
    put_shown c.args.self shown c.args.out.now _ _ _ _
    (ap answer_line c.in-Bytes.is ∙ ap ok_line (sym cut)) (omega arith) (omega arith)
    (λ h. ap is_one_line cut
    ∙ take_one_line 255 bytes (ap (λ a. is_one_line (answer_bytes a)) (sym c.in-Bytes.is) ∙ h))
    c.requires.roomy begun.end begun.buffer ended.end ended.buffer in
    record {
      end = put.end;
      buffer = put.buffer;
      short = put.short;
      one_line =
          put.one_line;
      apart = subst TellsApart (sym c.in-Bytes.is) tt;
    }

pub returns-in-Refused : goal.returns-in-Refused
returns-in-Refused c =
    let ended = c.put_refusal.ensures in
    let put =
    put_refused c.args.self c.in-Refused.refusal c.args.out.now _ _
    (ap answer_line c.in-Refused.is) (search rules) (search rules) c.requires.roomy
    ended.end ended.buffer in
    record {
      end = put.end;
      buffer = put.buffer;
      short = put.short;
      one_line =
          put.one_line;
      apart =
          subst TellsApart (sym c.in-Refused.is)
          (refusal_apart c.in-Refused.refusal (search rules) (search rules));
    }
