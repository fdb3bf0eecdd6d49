use Rattle.std.proofs.Common.{◌≡◌, ◌≤◌, ◌<◌, length, get_or, ◌∙◌, subst, List, ℕ, rules}
use Rattle.std.specs.Str.Parse.{ParsesUnsigned}
use Rattle.text.proofs.Decimals.{unread_bytes, read_parsed, read_written}
use Rattle.text.proofs.decimal.read_decimal.Goals as goal

pub returns-in_err-ok-in_default-2-clause-number : goal.returns-in_err-ok-in_default-2-clause-number
returns-in_err-ok-in_default-2-clause-number c = search (rules, unread_bytes)

pub returns-in_ok-ok-in_default-2-clause-number : goal.returns-in_ok-ok-in_default-2-clause-number
returns-in_ok-ok-in_default-2-clause-number c =
    let word = c.args.word.now in
    let text : c.in_ok-ok-in_default-2.field-0.now ≡ word = search rules in
    let parsed =
    subst (λ (t : List ℕ). ParsesUnsigned 64 10 t c.parse.result) text
    c.parse.ensures.value.0 in
    let short : length word ≤ 15 = search rules in
    let plus : get_or word 0 0 ≡ 43 → ⊥ = search rules in
    let front : 1 < length word → get_or word 0 0 ≡ 48 → ⊥ = search rules in
    c.ok-in_default-2.ensures.value ∙ read_parsed word _ parsed short plus front

pub returns-in_ok-ok-in_default-2-clause-same_word : goal.returns-in_ok-ok-in_default-2-clause-same_word
returns-in_ok-ok-in_default-2-clause-same_word c =
    read_written c.args.word.now _ (returns-in_ok-ok-in_default-2-clause-number c)
