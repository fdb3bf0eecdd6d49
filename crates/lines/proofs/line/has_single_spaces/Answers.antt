use Rattle.std.proofs.Common.{rules, ap, sym, ◌∙◌, not, eqb, length}
use Rattle.std.proofs.lemmas.Iterator.Splits.{YieldsList-from_slice_split}
use Rattle.std.proofs.lemmas.Iterator.Search.{all_from_yields_List}
use Rattle.lines.specs.Lines.{has_no_empty}
use Rattle.lines.proofs.WordFacts.{words_cut}
use Rattle.lines.proofs.line.has_single_spaces.Goals as goal

pub returns-else-is_empty : goal.returns-else-is_empty
returns-else-is_empty c =
    all_from_yields_List (λ word. not (eqb (length word) 0)) _ _ _ c.all.ensures.ran
    (YieldsList-from_slice_split _ (λ b. eqb b 32) c.args.line.now c.split.ensures.rest
    c.split.ensures.done c.split.ensures.closure (λ x b q k. search rules))
    (λ x b q k. search rules)
    ∙ ap has_no_empty (sym (words_cut c.args.line.now
    (sym c.is_empty.ensures ∙ c.if-is_empty.false)))
