use Rattle.std.proofs.Common.{◌≡◌, [], ◌∷◌, Ok, Err, ap, arith}
use Rattle.std.proofs.lemmas.Result.{err_from_is_err_and}
use Rattle.lines.specs.Forms.{a_mask, a_pocket, a_text}
use Rattle.lines.specs.Lines.{words_in}
use Rattle.lines.specs.Reading.{value_at}
use Rattle.lines.specs.Steps.{read_as}
use Rattle.lines.specs.Words.{numbered_word}
use Rattle.lines.specs.declared.verb.Verb.TheVariants.{Enter}
use Rattle.lines.proofs.ValueFacts.{at_word, own_all, own_until, read_until}
use Rattle.lines.proofs.step_line.read_enter.Goals as goal

pub returns-in_err-mask-clause-step : goal.returns-in_err-mask-clause-step
returns-in_err-mask-clause-step c =
    let line = c.args.words.now.line.now in
    let p =
    err_from_is_err_and c.from_residual-in_err-mask.result
    c.from_residual-in_err-mask.ensures.1 in
    let name : value_at a_text 3 (words_in line) ≡ Ok (numbered_word c.in_ok-text.field-0) =
    at_word c.args.words.now 3 line a_text c.text.ensures.value (omega arith) (cc)
    (ap (read_as numbered_word) c.in_ok-text.was) in
    let entry : value_at a_pocket 4 (words_in line) ≡ Ok c.in_ok-pocket.field-0 =
    at_word c.text.new.self 4 line a_pocket c.pocket.ensures.value (omega arith) (cc)
    c.in_ok-pocket.was in
    let wrong : value_at a_mask 5 (words_in line) ≡ Err c.in_err-mask.field-0.0 =
    at_word c.pocket.new.self 5 line a_mask c.mask.ensures.value (omega arith) (cc)
    c.in_err-mask.was in
    rw (p.1, p.2) (own_until Enter (words_in line) _
    (read_until (a_text ∷ a_pocket ∷ [])
    (numbered_word c.in_ok-text.field-0, (c.in_ok-pocket.field-0, tt)) a_mask
    (a_mask ∷ a_mask ∷ []) 3 5 (words_in line) _ (name, (entry, tt)) (omega arith)
    wrong))

pub returns-in_err-mask-2-clause-step : goal.returns-in_err-mask-2-clause-step
returns-in_err-mask-2-clause-step c =
    let line = c.args.words.now.line.now in
    let p =
    err_from_is_err_and c.from_residual-in_err-mask-2.result
    c.from_residual-in_err-mask-2.ensures.1 in
    let name : value_at a_text 3 (words_in line) ≡ Ok (numbered_word c.in_ok-text.field-0) =
    at_word c.args.words.now 3 line a_text c.text.ensures.value (omega arith) (cc)
    (ap (read_as numbered_word) c.in_ok-text.was) in
    let entry : value_at a_pocket 4 (words_in line) ≡ Ok c.in_ok-pocket.field-0 =
    at_word c.text.new.self 4 line a_pocket c.pocket.ensures.value (omega arith) (cc)
    c.in_ok-pocket.was in
    let works : value_at a_mask 5 (words_in line) ≡ Ok c.in_ok-mask.field-0 =
    at_word c.pocket.new.self 5 line a_mask c.mask.ensures.value (omega arith) (cc)
    c.in_ok-mask.was in
    let wrong : value_at a_mask 6 (words_in line) ≡ Err c.in_err-mask-2.field-0.0 =
    at_word c.mask.new.self 6 line a_mask c.mask-2.ensures.value (omega arith) (cc)
    c.in_err-mask-2.was in
    rw (p.1, p.2) (own_until Enter (words_in line) _
    (read_until (a_text ∷ a_pocket ∷ a_mask ∷ []) (
      numbered_word c.in_ok-text.field-0,
      (c.in_ok-pocket.field-0, (c.in_ok-mask.field-0, tt)),
    ) a_mask (a_mask ∷ []) 3 6
    (words_in line) _ (name, (entry, (works, tt))) (omega arith) wrong))

pub returns-in_err-mask-3-clause-step : goal.returns-in_err-mask-3-clause-step
returns-in_err-mask-3-clause-step c =
    let line = c.args.words.now.line.now in
    let p =
    err_from_is_err_and c.from_residual-in_err-mask-3.result
    c.from_residual-in_err-mask-3.ensures.1 in
    let name : value_at a_text 3 (words_in line) ≡ Ok (numbered_word c.in_ok-text.field-0) =
    at_word c.args.words.now 3 line a_text c.text.ensures.value (omega arith) (cc)
    (ap (read_as numbered_word) c.in_ok-text.was) in
    let entry : value_at a_pocket 4 (words_in line) ≡ Ok c.in_ok-pocket.field-0 =
    at_word c.text.new.self 4 line a_pocket c.pocket.ensures.value (omega arith) (cc)
    c.in_ok-pocket.was in
    let works : value_at a_mask 5 (words_in line) ≡ Ok c.in_ok-mask.field-0 =
    at_word c.pocket.new.self 5 line a_mask c.mask.ensures.value (omega arith) (cc)
    c.in_ok-mask.was in
    let inspector : value_at a_mask 6 (words_in line) ≡ Ok c.in_ok-mask-2.field-0 =
    at_word c.mask.new.self 6 line a_mask c.mask-2.ensures.value (omega arith) (cc)
    c.in_ok-mask-2.was in
    let wrong : value_at a_mask 7 (words_in line) ≡ Err c.in_err-mask-3.field-0.0 =
    at_word c.mask-2.new.self 7 line a_mask c.mask-3.ensures.value (omega arith) (cc)
    c.in_err-mask-3.was in
    rw (p.1, p.2) (own_until Enter (words_in line) _
    (read_until (a_text ∷ a_pocket ∷ a_mask ∷ a_mask ∷ []) (
      numbered_word c.in_ok-text.field-0,
      (c.in_ok-pocket.field-0, (c.in_ok-mask.field-0, (c.in_ok-mask-2.field-0, tt))),
    )
    a_mask ([]) 3 7 (words_in line) _ (name, (entry, (works, (inspector, tt))))
    (omega arith) wrong))

pub returns-clause-step : goal.returns-clause-step
returns-clause-step c =
    let line = c.args.words.now.line.now in
    let name : value_at a_text 3 (words_in line) ≡ Ok (numbered_word c.in_ok-text.field-0) =
    at_word c.args.words.now 3 line a_text c.text.ensures.value (omega arith) (cc)
    (ap (read_as numbered_word) c.in_ok-text.was) in
    let entry : value_at a_pocket 4 (words_in line) ≡ Ok c.in_ok-pocket.field-0 =
    at_word c.text.new.self 4 line a_pocket c.pocket.ensures.value (omega arith) (cc)
    c.in_ok-pocket.was in
    let works : value_at a_mask 5 (words_in line) ≡ Ok c.in_ok-mask.field-0 =
    at_word c.pocket.new.self 5 line a_mask c.mask.ensures.value (omega arith) (cc)
    c.in_ok-mask.was in
    let inspector : value_at a_mask 6 (words_in line) ≡ Ok c.in_ok-mask-2.field-0 =
    at_word c.mask.new.self 6 line a_mask c.mask-2.ensures.value (omega arith) (cc)
    c.in_ok-mask-2.was in
    let buyer : value_at a_mask 7 (words_in line) ≡ Ok c.in_ok-mask-3.field-0 =
    at_word c.mask-2.new.self 7 line a_mask c.mask-3.ensures.value (omega arith) (cc)
    c.in_ok-mask-3.was in
    own_all Enter _ (words_in line) (name, (entry, (works, (inspector, (buyer, tt)))))
