-- What a store keeps from one request to the next.
use Rattle.std.specs.Prelude.{ℕ, ◌+◌}
use Rattle.family.specs.Commuting.{Family}
use Rattle.holder.specs.Checks.{object_of}
use Rattle.holder.specs.declared.capability.Capability.{Capability}
use Rattle.holder.specs.declared.capability.Port.{Port}
use Rattle.secret.specs.Owner.{owner_capability}
use Rattle.secret.specs.declared.secret.Secret.{Secret}
use Rattle.admission.specs.declared.target.Target.{Target}
use Rattle.admission.specs.declared.target.Target.TheVariants.{Itself, File, Directory}

-- the family, the port, the store's own secret, the sizes of its memory, and where the next claim
-- begins in each table
pub record Kept : Type 0 where
  pub family : Family
  pub port : Port
  pub own : Secret
  pub files : ℕ
  pub directories : ℕ
  pub area : ℕ
  pub file_next : ℕ
  pub directory_next : ℕ

-- the same store once it gave the place p to a file
abbrev pub after_file : Kept → ℕ → Kept
after_file k p = record k { file_next = p + 1 }

-- the same store once it gave the place p to a directory
abbrev pub after_directory : Kept → ℕ → Kept
after_directory k p = record k { directory_next = p + 1 }

-- the numbers of objects: 0 is the store, then come the files by place, then the directories
abbrev pub file_number : ℕ → ℕ
file_number p = 1 + p

abbrev pub directory_number : Kept → ℕ → ℕ
directory_number k p = 1 + k.files + p

abbrev pub number_of : Kept → Target → ℕ
number_of k Itself = 0
number_of k (File p r) = file_number p
number_of k (Directory p d) = directory_number k p

-- the owner capability of the object with a number
abbrev pub grant_of : Kept → ℕ → Secret → Capability
grant_of k o secret = owner_capability k.port (object_of o) secret.value
