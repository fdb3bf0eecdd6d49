use Rattle.std.proofs.Common.{◌≡◌, ◌∷◌, ◌∙◌, [], Some, IfSome, false, sym, ap, subst}
use Rattle.std.specs.Io.Buffered.{reader_remaining}
use Rattle.std.specs.Io.KnownBytes.{Appends}
use Rattle.std.proofs.KnownBytes.{Appends-kept}
use Rattle.script.specs.CodeStates.{script_stage}
use Rattle.script.specs.Scripts.{answers, is_closed, outcome_at}
use Rattle.text.specs.Lines.{behind, is_any, line_in}
use Rattle.console.specs.Lines.{line_front, text_of}
use Rattle.console.specs.Reading.{line_bytes}
use Rattle.std.proofs.lemmas.Result.{err_from_is_err_and}
use Rattle.console.proofs.PrintFacts.{all_printed, any_unwritten, by_writer, came_through, closed_none, empty_none, front_printed, line_printed, nothing_printed, on_ok, unread_error, unwritten}
use Rattle.console.proofs.running.print_answers.Goals.{then-is_closed-via-then-is_closed, then-is_closed-via-else-is_closed+in_ok-map_err+then-not-branch, then-is_empty+in_ok-map_err-2, else-is_empty}
use Rattle.console.proofs.running.print_answers.Goals as goal

pub loop-init : goal.loop-init
loop-init g c = rw (c.new-script.ensures c.args.memory.now) (nothing_printed _ _ _)

pub returns-then-is_closed-clause-prints : goal.returns-then-is_closed-clause-prints
returns-then-is_closed-clause-prints g c =
    let now = script_stage c.loop.script c.loop.memory in
    let left = reader_remaining g.R.Read.remaining c.loop.input in
    let last = reader_remaining g.R.Read.remaining c.then-is_closed.input in
    on_ok c.map_err-then-is_closed.result (all_printed _ _ _ now left last _ _ c.loop.invariant
    (elim c.then-is_closed.branch [
      | then-is_closed-via-then-is_closed w ↦ rw w.input-is
          (closed_none now left (sym (c.is_closed.ensures c.loop.memory) ∙ w.if-is_closed.true))
      | then-is_closed-via-else-is_closed+in_ok-map_err+then-not-branch w ↦ rw w.input-is (
          empty_none now left (reader_remaining g.R.Read.remaining w.read.new.input)
          w.in_ok-map_err.field-0 w.if-not-branch.true
          (came_through w.read.result w.map_err.result _ w.in_ok-map_err.field-0
          (λ any. IfSome left (λ xs. any ≡ is_any xs)) w.map_err.ensures.cases
          w.in_ok-map_err.was w.read.ensures.any)
          (came_through w.read.result w.map_err.result _ w.in_ok-map_err.field-0
          (λ any. IfSome left (λ xs. reader_remaining g.R.Read.remaining w.read.new.input
          ≡ Some (behind xs))) w.map_err.ensures.cases w.in_ok-map_err.was
          w.read.ensures.rest))
    ]) c.flush.ensures.bytes)

pub loop-preserved : goal.loop-preserved
loop-preserved g c =
    let now = script_stage c.loop.script c.loop.memory in
    let left = reader_remaining g.R.Read.remaining c.loop.input in
    let rest = reader_remaining g.R.Read.remaining c.read.new.input in
    let line = line_bytes c.read.new.self in
    let held = g.W.Write.contents c.loop.output in
    let takes : is_closed now ≡ false =
    sym (c.is_closed.ensures c.loop.memory) ∙ c.if-is_closed.false in
    let told = c.in_ok-map_err.field-0 in
    let tells =
    came_through c.read.result c.map_err.result _ told
    (λ any. IfSome left (λ xs. any ≡ is_any xs)) c.map_err.ensures.cases c.in_ok-map_err.was
    c.read.ensures.any in
    let is =
    came_through c.read.result c.map_err.result _ told
    (λ any. IfSome left (λ xs. line ≡ line_front (line_in xs))) c.map_err.ensures.cases
    c.in_ok-map_err.was c.read.ensures.line in
    let behind_it =
    came_through c.read.result c.map_err.result _ told
    (λ any. IfSome left (λ xs. rest ≡ Some (behind xs))) c.map_err.ensures.cases
    c.in_ok-map_err.was c.read.ensures.rest in
    let printed =
    subst (λ l. Appends held (g.W.Write.contents c.print_answer.new.output)
    (text_of (answers now (l ∷ [])))) c.bytes.ensures.bytes
    c.in_ok-print_answer.ensures.prints in
    let adds : Appends held (g.W.Write.contents c.if-is_empty.output)
    (text_of (answers now (line ∷ []))) = elim c.if-is_empty.branch [
      | then-is_empty+in_ok-map_err-2 w ↦ rw w.output-is
          (Appends-kept held (g.W.Write.contents c.print_answer.new.output) _
          (text_of (answers now (line ∷ []))) printed w.flush-then-is_empty.ensures.bytes)
      | else-is_empty w ↦ rw w.output-is printed
    ] in
    let goes =
    c.print_answer.ensures.stage ∙ ap (λ l. (outcome_at now l).after) c.bytes.ensures.bytes in
    let next = script_stage c.print_answer.new.script c.print_answer.new.memory in
    line_printed _ _ _ now next left rest held (g.W.Write.contents c.if-is_empty.output) line told
    c.loop.invariant takes c.if-not-branch.false tells is behind_it adds goes

pub returns-in_err-map_err-clause-front : goal.returns-in_err-map_err-clause-front
returns-in_err-map_err-clause-front g c =
    let p = err_from_is_err_and c.from_residual.result c.from_residual.ensures.1 in
    rw (p.1, p.2) (unread_error _ c.read.result c.map_err.result c.in_err-map_err.field-0.0
    c.map_err.ensures.cases c.in_err-map_err.was (front_printed _ _ _ _ _ _ c.loop.invariant))

pub returns-then-is_closed-clause-front : goal.returns-then-is_closed-clause-front
returns-then-is_closed-clause-front g c =
    any_unwritten _ c.flush.result c.map_err-then-is_closed.result
    c.map_err-then-is_closed.ensures.cases

pub returns-in_err-print_answer-clause-front : goal.returns-in_err-print_answer-clause-front
returns-in_err-print_answer-clause-front g c =
    let p =
    err_from_is_err_and c.from_residual-in_err-print_answer.result
    c.from_residual-in_err-print_answer.ensures.1 in
    rw (p.1, p.2) (by_writer _ c.print_answer.result c.in_err-print_answer.field-0.0
    c.print_answer.ensures.output c.in_err-print_answer.was)

pub returns-in_err-map_err-2-clause-front : goal.returns-in_err-map_err-2-clause-front
returns-in_err-map_err-2-clause-front g c =
    let p =
    err_from_is_err_and c.from_residual-in_err-map_err-2.result
    c.from_residual-in_err-map_err-2.ensures.1 in
    rw (p.1, p.2) (unwritten _ c.flush-then-is_empty.result c.map_err-then-is_empty.result
    c.in_err-map_err-2.field-0.0 c.map_err-then-is_empty.ensures.cases c.in_err-map_err-2.was)

pub returns-clause-front : goal.returns-clause-front
returns-clause-front g c = front_printed _ _ _ _ _ _ c.loop.invariant
