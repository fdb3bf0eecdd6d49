use Rattle.std.proofs.Common.{◌≡◌, ℕ, List, [], ◌∷◌, ◌++◌, codes, decimal, append_assoc, subst, rules}
use Rattle.text.specs.Put.{buffer_after}
use Rattle.text.specs.RefusalLine.{refusal_line}
use Rattle.text.proofs.refusal_line.put_refusal.Goals as goal

-- the parts, put one behind the other
in_one :
    (number place : List ℕ) (letter : ℕ) →
    ((((codes "no " ++ number) ++ codes " ") ++ (letter ∷ [])) ++ codes " ") ++ place
    ≡ codes "no " ++ number ++ (codes " " ++ (letter ∷ codes " ")) ++ place
in_one number place letter = simp append_assoc

pub returns-clause-buffer : goal.returns-clause-buffer
returns-clause-buffer c =
    let no : c.try_push_str.new.self.bytes ≡ codes "no " = search rules in
    let number : c.try_push_str-2.new.self.bytes
    ≡ c.try_push_str.new.self.bytes ++ decimal c.args.refusal.number = search rules in
    let space : c.try_push_str-3.new.self.bytes ≡ c.try_push_str-2.new.self.bytes ++ codes " " =
    search rules in
    let letter : c.try_push.new.self.bytes
    ≡ c.try_push_str-3.new.self.bytes ++ (c.letter.result ∷ []) = search rules in
    let space2 : c.try_push_str-4.new.self.bytes ≡ c.try_push.new.self.bytes ++ codes " " =
    search rules in
    let place : c.try_push_str-5.new.self.bytes
    ≡ c.try_push_str-4.new.self.bytes ++ decimal c.args.refusal.place = search rules in
    let whole : c.as_bytes.result.now ≡ c.try_push_str-5.new.self.bytes = search rules in
    let layer = c.letter.ensures in
    let parts =
    in_one (decimal c.args.refusal.number) (decimal c.args.refusal.place) c.letter.result in
    let text : c.as_bytes.result.now ≡ refusal_line c.args.refusal = cc in
    subst (λ (t : List ℕ). c.put.new.out ≡ buffer_after c.args.out.now c.args.at t) text
    c.put.ensures.buffer
