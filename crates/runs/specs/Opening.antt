-- Where a run begins: with the opening's own answer, and what it left.
use Rattle.family.specs.Commuting.{Family}
use Rattle.secret.specs.declared.secret.Secret.{Secret}
use Rattle.memory.specs.Soundness.{Content}
use Rattle.store.specs.State.{kept_of, State}
use Rattle.store.specs.declared.open.Opened.{Opened}
use Rattle.runs.specs.Grants.{Grant}

-- the first grant: object 0's owner capability, and the secret brought to the opening
abbrev pub first_grant : {F : Type 0} → Opened F → Secret → Grant
first_grant opened secret = record { capability = opened.owner; secret = secret }

-- what the new store keeps, and what memory holds once it is open
abbrev pub start_state : {F : Type 0} → (F → Family) → Opened F → Content → State
start_state meaning opened m = record { kept = kept_of meaning opened.store; memory = m }
