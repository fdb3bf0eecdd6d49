-- Revoking: another secret for an object, so that capabilities from the old one are worth nothing.
use Rattle.std.specs.Prelude.{slice_set}
use Rattle.secret.specs.declared.secret.Secret.{Secret}
use Rattle.memory.specs.Records.{renewed_file, renewed_directory}
use Rattle.memory.specs.Soundness.{Content}
use Rattle.admission.specs.declared.target.Target.{Target}
use Rattle.admission.specs.declared.target.Target.TheVariants.{Itself, File, Directory}
use Rattle.store.specs.Kept.{Kept, number_of, grant_of}
use Rattle.store.specs.Outcomes.{Change}
use Rattle.store.specs.Requests.{granted}
use Rattle.store.specs.State.{State}

-- the store's own secret stands in the store, and the others in their records
abbrev pub kept_with_secret : Kept → Secret → Target → Kept
kept_with_secret k secret Itself = record k { own = secret }
kept_with_secret k secret (File p r) = k
kept_with_secret k secret (Directory p d) = k

abbrev pub memory_with_secret : Content → Secret → Target → Content
memory_with_secret m secret Itself = m
memory_with_secret m secret (File p r) =
    record m { files = slice_set m.files p (renewed_file r secret) }
memory_with_secret m secret (Directory p d) =
    record m { directories = slice_set m.directories p (renewed_directory d secret) }

-- another secret, with the new owner capability told
abbrev pub revocation : State → Secret → Target → Change
revocation s secret target = record {
  told = granted (grant_of s.kept (number_of s.kept target) secret);
  after = record {
    kept = kept_with_secret s.kept secret target;
    memory = memory_with_secret s.memory secret target;
  };
}
