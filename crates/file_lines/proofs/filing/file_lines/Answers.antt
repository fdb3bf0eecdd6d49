use Rattle.std.proofs.Common.{◌≡◌, ◌+◌, Some, IfOk, IfSome, OnOk, subst, sym}
use Rattle.std.proofs.KnownBytes.{Appends-kept}
use Rattle.std.specs.Io.Buffered.{reader_remaining}
use Rattle.text.specs.Lines.{behind, is_any, line_in}
use Rattle.file_lines.specs.Registry.{registry_state}
use Rattle.file_lines.proofs.FilingFacts.{FiledSoFar, all_done, line_done}
use Rattle.file_lines.proofs.filing.file_lines.Goals as goal

pub returns-then-not-branch : goal.returns-then-not-branch
returns-then-not-branch g c =
    let left = reader_remaining g.R.Read.remaining c.loop-line.input in
    all_done _ _ _ _ _ left _ _ c.in_ok-context.field-0 c.loop-line.invariant c.if-not-branch.true
    (subst (λ r. IfOk r (λ any. IfSome left (λ xs. any ≡ is_any xs))) c.in_ok-context.ensures
    c.read_line.ensures.any)

pub loop-line-preserved : goal.loop-line-preserved
loop-line-preserved g c =
    let m = g.F.CommutingFamily in
    let s = registry_state m.meaning c.args.registry.now c.args.memory.now in
    let input = reader_remaining g.R.Read.remaining c.args.input.now in
    let was = g.W.Write.contents c.args.output.now in
    let now = registry_state m.meaning c.loop-line.registry c.loop-line.memory in
    let left = reader_remaining g.R.Read.remaining c.loop-line.input in
    let held = g.W.Write.contents c.loop-line.output in
    let after = registry_state m.meaning c.file_line.new.registry c.file_line.new.memory in
    let rest = reader_remaining g.R.Read.remaining c.read_line.new.input in
    let more = g.W.Write.contents c.flush.new.self in
    let bytes = c.deref.result.now in
    let tells =
    subst (λ r. IfOk r (λ any. IfSome left (λ xs. any ≡ is_any xs))) c.in_ok-context.ensures
    c.read_line.ensures.any in
    let read =
    subst (λ r. OnOk r (IfSome left (λ xs. c.read_line.new.line.items ≡ line_in xs)))
    c.in_ok-context.ensures c.read_line.ensures.line in
    let is_it = subst (λ l. IfSome left (λ xs. l ≡ line_in xs)) (sym c.deref.ensures.value) read in
    let behind_it =
    subst (λ r. OnOk r (IfSome left (λ xs. rest ≡ Some (behind xs)))) c.in_ok-context.ensures
    c.read_line.ensures.rest in
    let adds =
    Appends-kept held (g.W.Write.contents c.file_line.new.output) more _
    c.in_ok-run.ensures.text c.in_ok-flush.ensures.bytes in
    subst (FiledSoFar s input was after (c.loop-line.line + 1) rest more)
    (sym c.in_ok-add_run.ensures)
    (line_done s input was now c.loop-line.line left held c.loop-line.runs.items after rest more
    bytes c.in_ok-context.field-0 c.in_ok-run.run'
    c.loop-line.invariant c.if-not-branch.false tells is_it behind_it adds c.in_ok-run.ensures.run
    c.in_ok-run.ensures.after)
