use Rattle.std.proofs.Common.{◌<◌, length, rules, subst}
use Rattle.std.specs.Io.KnownBytes.{Appends}
use Rattle.file_lines.specs.Filing.{reading_text}
use Rattle.file_lines.specs.Registry.{registry_state}
use Rattle.file_lines.proofs.FilingFacts.{one_read}
use Rattle.file_lines.proofs.closing.read_all.Goals as goal

pub loop-run-preserved : goal.loop-run-preserved
loop-run-preserved g c =
    let within : c.loop-run.run-index < length c.args.runs.now = search rules in
    let s = registry_state g.F.CommutingFamily.meaning c.args.registry.now c.args.memory.now in
    let was = g.W.Write.contents c.loop-run.output in
    let is = g.W.Write.contents c.read_back.new.output in
    let read =
    subst (λ run. Appends was is (reading_text s run)) c.run-item.is
    c.in_ok-read_back.ensures in
    one_read _ _ c.args.runs.now c.loop-run.run-index _ _ _ c.loop-run.invariant within read
