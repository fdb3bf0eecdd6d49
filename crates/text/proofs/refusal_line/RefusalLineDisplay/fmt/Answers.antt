use Rattle.std.proofs.Common.{◌≡◌, ℕ, ◌<◌, List, [], ◌∷◌, ◌++◌, decimal, sym, ap, ◌∙◌, append_assoc, arith}
use lib.Utf8.{encode}
use Rattle.std.proofs.Output.{has_written_of_eq}
use Rattle.std.proofs.lemmas.Str.Ascii.{encode_ascii}
use Rattle.refusal.specs.declared.Layer.{Layer}
use Rattle.refusal.specs.declared.Layer.TheVariants.{Family, Holder, Store, Line}
use Rattle.refusal.specs.Letters.{layer_letter}
use Rattle.text.specs.RefusalLine.{refusal_line}
use Rattle.text.proofs.refusal_line.RefusalLineDisplay.fmt.Goals as goal

small : (l : Layer) → layer_letter l < 128
small Family = omega arith
small Holder = omega arith
small Store = omega arith
small Line = omega arith

pub returns-clause-writes : goal.returns-clause-writes
returns-clause-writes g c = λ p ok.
    let refusal = c.args.self.now.refusal in
    let n : List ℕ = decimal refusal.number in
    let l : ℕ = layer_letter refusal.layer in
    let place : List ℕ = decimal refusal.place in
    let letter : encode c.letter-layer.result ≡ l ∷ [] =
    ap encode c.letter-layer.ensures ∙ encode_ascii l (small refusal.layer) in
    let text : 110 ∷ 111 ∷ 32 ∷ (n ++ (32 ∷ (encode c.letter-layer.result ++ (32 ∷ place))))
    ≡ refusal_line refusal =
    ap (λ t. 110 ∷ 111 ∷ 32 ∷ (n ++ (32 ∷ (t ++ (32 ∷ place))))) letter
    ∙ ap (λ t. 110 ∷ 111 ∷ 32 ∷ t) (sym (append_assoc n (32 ∷ l ∷ 32 ∷ []) place)) in
    has_written_of_eq g.W.Write.write_str_gives _ _ _ _ text (c.write.ensures.writes p ok)
