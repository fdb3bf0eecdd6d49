use Rattle.std.proofs.Common.{◌≡◌, [], ◌∷◌, Ok, Err, arith}
use Rattle.std.proofs.lemmas.Result.{err_from_is_err_and}
use Rattle.refusal.specs.Chains.{unless}
use Rattle.lines.specs.Forms.{a_family, a_number, a_port}
use Rattle.lines.specs.Lines.{words_in}
use Rattle.lines.specs.Reading.{ends_at, misread_at, value_at}
use Rattle.lines.proofs.ValueFacts.{at_end, at_word, read_until, store_all, store_until}
use Rattle.lines.proofs.store_line.read_behind.Goals as goal

pub returns-in_err-port : goal.returns-in_err-port
returns-in_err-port c =
    let line = c.args.words.line.now in
    let p =
    err_from_is_err_and c.from_residual-in_err-port.result
    c.from_residual-in_err-port.ensures.1 in
    let family : value_at a_family 2 (words_in line) ≡ Ok c.in_ok-family.family =
    at_word c.args.words 2 line a_family c.family.ensures.value (omega arith) (cc)
    c.in_ok-family.was in
    let modulus : value_at a_number 3 (words_in line) ≡ Ok c.in_ok-modulus.modulus =
    at_word c.family.new.self 3 line a_number c.decimal.ensures.value (omega arith) (cc)
    c.in_ok-modulus.was in
    let wrong : value_at a_port 4 (words_in line) ≡ Err c.in_err-port.field-0.0 =
    at_word c.decimal.new.self 4 line a_port c.port.ensures.value (omega arith) (cc)
    c.in_err-port.was in
    rw (p.1, p.2) (store_until (words_in line) _
    (read_until (a_family ∷ a_number ∷ [])
    (c.in_ok-family.family, (c.in_ok-modulus.modulus, tt)) a_port (a_number ∷ []) 2 4
    (words_in line) _ (family, (modulus, tt)) (omega arith) wrong))

pub returns-in_err-secret : goal.returns-in_err-secret
returns-in_err-secret c =
    let line = c.args.words.line.now in
    let p =
    err_from_is_err_and c.from_residual-in_err-secret.result
    c.from_residual-in_err-secret.ensures.1 in
    let family : value_at a_family 2 (words_in line) ≡ Ok c.in_ok-family.family =
    at_word c.args.words 2 line a_family c.family.ensures.value (omega arith) (cc)
    c.in_ok-family.was in
    let modulus : value_at a_number 3 (words_in line) ≡ Ok c.in_ok-modulus.modulus =
    at_word c.family.new.self 3 line a_number c.decimal.ensures.value (omega arith) (cc)
    c.in_ok-modulus.was in
    let port : value_at a_port 4 (words_in line) ≡ Ok c.in_ok-port.port =
    at_word c.decimal.new.self 4 line a_port c.port.ensures.value (omega arith) (cc)
    c.in_ok-port.was in
    let wrong : value_at a_number 5 (words_in line) ≡ Err c.in_err-secret.field-0.0 =
    at_word c.port.new.self 5 line a_number c.decimal-2.ensures.value (omega arith) (cc)
    c.in_err-secret.was in
    rw (p.1, p.2) (store_until (words_in line) _
    (read_until (a_family ∷ a_number ∷ a_port ∷ [])
    (c.in_ok-family.family, (c.in_ok-modulus.modulus, (c.in_ok-port.port, tt))) a_number
    ([]) 2 5 (words_in line) _ (family, (modulus, (port, tt))) (omega arith) wrong))

pub returns-in_err-end : goal.returns-in_err-end
returns-in_err-end c =
    let line = c.args.words.line.now in
    let p =
    err_from_is_err_and c.from_residual-in_err-end.result
    c.from_residual-in_err-end.ensures.1 in
    let family : value_at a_family 2 (words_in line) ≡ Ok c.in_ok-family.family =
    at_word c.args.words 2 line a_family c.family.ensures.value (omega arith) (cc)
    c.in_ok-family.was in
    let modulus : value_at a_number 3 (words_in line) ≡ Ok c.in_ok-modulus.modulus =
    at_word c.family.new.self 3 line a_number c.decimal.ensures.value (omega arith) (cc)
    c.in_ok-modulus.was in
    let port : value_at a_port 4 (words_in line) ≡ Ok c.in_ok-port.port =
    at_word c.decimal.new.self 4 line a_port c.port.ensures.value (omega arith) (cc)
    c.in_ok-port.was in
    let secret : value_at a_number 5 (words_in line) ≡ Ok c.in_ok-secret.secret =
    at_word c.port.new.self 5 line a_number c.decimal-2.ensures.value (omega arith) (cc)
    c.in_ok-secret.was in
    let end : unless (ends_at 6 (words_in line)) (misread_at 6) (Ok tt)
    ≡ Err c.in_err-end.field-0.0 =
    at_end c.decimal-2.new.self 6 line c.end.ensures.end (omega arith) (cc)
    c.in_err-end.was in
    rw (p.1, p.2) (store_all (
      c.in_ok-family.family,
      (
        c.in_ok-modulus.modulus,
        (c.in_ok-port.port, (c.in_ok-secret.secret, tt)),
      ),
    ) (words_in line) _
    (family, (modulus, (port, (secret, tt)))) end)

pub returns : goal.returns
returns c =
    let line = c.args.words.line.now in
    let family : value_at a_family 2 (words_in line) ≡ Ok c.in_ok-family.family =
    at_word c.args.words 2 line a_family c.family.ensures.value (omega arith) (cc)
    c.in_ok-family.was in
    let modulus : value_at a_number 3 (words_in line) ≡ Ok c.in_ok-modulus.modulus =
    at_word c.family.new.self 3 line a_number c.decimal.ensures.value (omega arith) (cc)
    c.in_ok-modulus.was in
    let port : value_at a_port 4 (words_in line) ≡ Ok c.in_ok-port.port =
    at_word c.decimal.new.self 4 line a_port c.port.ensures.value (omega arith) (cc)
    c.in_ok-port.was in
    let secret : value_at a_number 5 (words_in line) ≡ Ok c.in_ok-secret.secret =
    at_word c.port.new.self 5 line a_number c.decimal-2.ensures.value (omega arith) (cc)
    c.in_ok-secret.was in
    let end : unless (ends_at 6 (words_in line)) (misread_at 6) (Ok tt) ≡ Ok tt =
    at_end c.decimal-2.new.self 6 line c.end.ensures.end (omega arith) (cc) c.in_ok-end.was in
    store_all _ (words_in line) _ (family, (modulus, (port, (secret, tt)))) end
