use Rattle.std.proofs.Common.{◌∙◌, ap, subst, OnOk}
use Rattle.std.specs.Io.KnownBytes.{Appends}
use Rattle.store.specs.Outcomes.{told_as}
use Rattle.store.specs.Requests.{granted}
use Rattle.file_lines.specs.Filing.{filing_text}
use Rattle.file_lines.specs.Printing.{action_line, answer_text}
use Rattle.file_lines.specs.declared.action.Action.TheVariants.{File}
use Rattle.file_lines.proofs.FilingFacts.{printed_then}
use Rattle.file_lines.proofs.filing.file_line.Goals as goal

pub returns-in-Ok-clause-text : goal.returns-in-Ok-clause-text
returns-in-Ok-clause-text g c =
    let was = g.W.Write.contents c.args.output.now in
    let between = g.W.Write.contents c.print_action.new.output in
    let is = g.W.Write.contents c.restrict.new.output in
    let first = subst (λ came. Appends was between (action_line (File c.args.line) came))
    (c.to_granting.ensures ∙ ap (λ r. answer_text (told_as granted r)) c.in-Ok.is)
    c.in_ok-print_action.ensures in
    subst (λ t. OnOk c.restrict.result (Appends was is (filing_text c.args.line t))) c.in-Ok.ensures
    (printed_then c.restrict.result was between is _ _ first c.restrict.ensures.text)
