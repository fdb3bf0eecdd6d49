use Rattle.std.proofs.Common.{◌≡◌, ◌^◌, ◌-◌, ◌∷◌, [], Some, false, ap, subst, ◌∙◌, arith}
use Rattle.std.specs.Prelude.{IfSome}
use Rattle.std.specs.Fmt.{WritesOnOk, format_spec, padded_integral, styled_digits_output}
use Rattle.std.specs.Option.{option_map}
use Rattle.std.proofs.lemmas.Fmt.{hex_byte}
use Rattle.text.specs.Hex.{hex_text}
use Rattle.text.proofs.hexadecimal.show_byte.Goals as goal

pub returns : goal.returns
returns g c =
    let b = c.args.b in
    let written : styled_digits_output c.in_radix.result c.laid_out.result
    ≡ Some (hex_text (b ∷ [])) =
    ap (styled_digits_output c.in_radix.result) c.laid_out.ensures
    ∙ ap (option_map (padded_integral (format_spec 32 0 4 2 (2 ^ 64 - 1)) false []))
    c.in_radix.ensures
    ∙ ap Some (hex_byte false b (omega (arith, c.ranges.b))) in
    subst (λ o. IfSome o (λ bs. WritesOnOk g.W.Write.write_str_gives c.args.f.now c.write.result bs
    c.write.new.self)) written c.write.ensures.writes
