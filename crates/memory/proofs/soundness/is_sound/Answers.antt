use Rattle.std.proofs.Common.{◌≡◌}
use Rattle.std.proofs.lemmas.Bool.Decides.{Decides-at}
use Rattle.memory.specs.Held.{content}
use Rattle.memory.specs.Soundness.{is_sound}
use Rattle.memory.proofs.SoundFacts.{sound_decides}
use Rattle.memory.proofs.soundness.is_sound.Goals as goal

pub returns : goal.returns
unfolding is_sound
returns g c =
    let n = (g.F.CommutingFamily.meaning c.args.family.now).modulus in
    let port = c.args.port.bytes in
    let held = content c.args.memory.now in
    let value : c.passes_all.result ≡ is_sound n port held = c.passes_all.ensures in
    record {
      value = value;
      words =
          Decides-at c.passes_all.result (is_sound n port held) value (sound_decides n port held);
    }
