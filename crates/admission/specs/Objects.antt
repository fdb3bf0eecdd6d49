-- Objects by number: 0 is the store, then come the files by place, then the directories.
use Rattle.std.specs.Prelude.{ℕ, ◌-◌, if◌then◌else◌, length, Some, Option, ◌==◌, nat_le, option_map}
use Rattle.holder.specs.declared.capability.Capability.{Capability}
use Rattle.secret.specs.declared.secret.Secret.{Secret}
use Rattle.table.specs.Table.{live_record}
use Rattle.memory.specs.Soundness.{Content}
use Rattle.admission.specs.declared.target.Target.{Target}
use Rattle.admission.specs.declared.target.Target.TheVariants.{Itself, File, Directory}

-- the live object with a number, if there is one
abbrev pub target_at : Content → ℕ → Option Target
target_at m o =
    if o == 0 then Some Itself
    else (if nat_le o (length m.files)
    then option_map (λ r. File (o - 1) r) (live_record (λ r. r.live) m.files (o - 1))
    else option_map (λ d. Directory (o - 1 - length m.files) d)
    (live_record (λ d. d.live) m.directories (o - 1 - length m.files)))

-- the secret of an object; `own` is the store's
abbrev pub secret_of : Secret → Target → Secret
secret_of own Itself = own
secret_of own (File place r) = r.secret
secret_of own (Directory place d) = d.secret

-- the number of a capability's object
abbrev pub object_number : Capability → ℕ
object_number c = c.object.value
