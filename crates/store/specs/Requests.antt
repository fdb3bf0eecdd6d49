-- The requests to a store, and their answers.
use Rattle.std.specs.Prelude.{ℕ, List}
use Rattle.holder.specs.declared.capability.Capability.{Capability}
use Rattle.secret.specs.declared.secret.Secret.{Secret}
use Rattle.memory.specs.declared.row.Masks.{Masks}

-- reads: a look-up has a name, a walk a path, a row its place, a name the number of an object
pub data Query : Type 0 where
  read : Query
  size : Query
  look_up : List ℕ → Query
  walk : List ℕ → Query
  row : ℕ → Query
  name : ℕ → Query

-- may change the state: an entry has a name, a capability and masks; a removal has its name
pub data Update : Type 0 where
  create_file : List ℕ → Secret → Update
  create_directory : Secret → Update
  enter : List ℕ → Capability → Masks → Update
  remove : List ℕ → Update
  destroy : Update
  revoke : Secret → Update

pub data Ask : Type 0 where
  query : Query → Ask
  update : Update → Ask

-- the answers: an owner capability, a file's bytes, its size, a capability that a look-up or a
-- walk finds, the name of a row, or that it is done
pub data Told : Type 0 where
  granted : Capability → Told
  the_bytes : List ℕ → Told
  the_size : ℕ → Told
  found : Capability → Told
  the_name : List ℕ → Told
  done : Told
