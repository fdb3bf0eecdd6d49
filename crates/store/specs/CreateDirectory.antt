-- Creating a directory.
use Rattle.std.specs.Prelude.{ℕ, Ok, Result, slice_index_or, slice_set}
use Rattle.refusal.specs.Chains.{given, and_then}
use Rattle.secret.specs.declared.secret.Secret.{Secret}
use Rattle.table.specs.Table.{claimed_place}
use Rattle.memory.specs.Records.{made_directory, zero_directory}
use Rattle.memory.specs.Soundness.{Content}
use Rattle.store.specs.Kept.{after_directory, directory_number, grant_of}
use Rattle.store.specs.Outcomes.{Change}
use Rattle.store.specs.Requests.{granted}
use Rattle.store.specs.State.{State}
use Rattle.store.specs.declared.error.StoreRefusal.{StoreRefusal}
use Rattle.store.specs.declared.error.StoreRefusal.TheVariants.{NoFreeRecord}

-- memory with a new directory: a record made from the free one, without rows
abbrev pub with_directory : Content → Secret → ℕ → Content
with_directory m secret p = record m {
  directories =
      slice_set m.directories p
      (made_directory (slice_index_or m.directories p zero_directory) secret);
}

-- the new directory, with its owner capability told
abbrev pub new_directory : State → Secret → ℕ → Change
new_directory s secret p = record {
  told = granted (grant_of s.kept (directory_number s.kept p) secret);
  after = record { kept = after_directory s.kept p; memory = with_directory s.memory secret p };
}

-- the place of a new directory in the table
abbrev pub place_for : State → Result ℕ StoreRefusal
place_for s =
    given (claimed_place (λ d. d.live) s.memory.directories s.kept.directory_next) NoFreeRecord Ok

abbrev pub directory_creation : State → Secret → Result Change StoreRefusal
directory_creation s secret = and_then (place_for s) (λ p. Ok (new_directory s secret p))
