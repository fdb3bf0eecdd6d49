use Rattle.std.proofs.Common.{◌≡◌, ℕ, ◌+◌, ◌/◌, ◌%◌, List, [], ◌∷◌, ◌++◌, get_or, take, sym, refl, ap, ◌∙◌}
use Rattle.std.proofs.Output.{has_written_append, has_written_of_eq}
use Rattle.std.proofs.lemmas.List.{take_more}
use Rattle.text.specs.Hex.{hex_digit, hex_text}
use Rattle.text.proofs.hexadecimal.HexDisplay.fmt.Goals as goal

-- the digits of one byte more
hex_text-append : (xs ys : List ℕ) → hex_text (xs ++ ys) ≡ hex_text xs ++ hex_text ys
hex_text-append [] ys = refl
hex_text-append (x ∷ xs) ys =
    ap (λ t. hex_digit (x / 16) ∷ hex_digit (x % 16) ∷ t) (hex_text-append xs ys)

pub loop-b-preserved : goal.loop-b-preserved
loop-b-preserved g c = λ p.
    let took = g.W.Write.write_str_gives in
    let bytes : List ℕ = c.args.self.now.bytes.now in
    let i : ℕ = c.loop-b.b-index in
    let b : ℕ = get_or bytes i 0 in
    let before = c.loop-b.invariant p in
    let more : hex_text (take i bytes) ++ hex_text (b ∷ []) ≡ hex_text (take (i + 1) bytes) =
    sym (hex_text-append (take i bytes) (b ∷ []))
    ∙ ap hex_text (sym (take_more bytes i 0 c.loop-b-test.true)) in
    has_written_of_eq took _ _ _ _ more
    (has_written_append took _ _ _ _ _ before (c.in_ok-show_byte.ensures before.plain refl))
