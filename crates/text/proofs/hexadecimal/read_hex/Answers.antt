use Rattle.std.proofs.Common.{◌≡◌, sym, ◌∙◌, rules, tests}
use Rattle.std.proofs.lemmas.Iterator.{YieldsList-from_slice}
use Rattle.std.proofs.lemmas.Iterator.Search.{any_from_yields_List}
use Rattle.std.specs.Char.{is_ascii_uppercase}
use Rattle.std.specs.List.{list_any}
use Rattle.text.proofs.Pairs.{read_written}
use Rattle.text.proofs.hexadecimal.read_hex.Goals as goal

pub returns : goal.returns
returns g c =
    let word = c.args.word.now in
    record {
      bytes = c.decode.ensures;
      same_word = read_written g.row.N word _ c.decode.ensures;
    }

pub decode-requires : goal.decode-requires
decode-requires g c =
    let word = c.args.word.now in
    let some : c.any.result ≡ list_any is_ascii_uppercase word =
    any_from_yields_List is_ascii_uppercase _ _ _ c.any.ensures.ran
    (YieldsList-from_slice word (cc)) (λ x b q k. search (rules, tests)) in
    (search rules, sym some ∙ c.if-any.false)
