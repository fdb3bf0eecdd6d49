-- Creating a file.
use Rattle.std.specs.Prelude.{ℕ, List, length, Ok, Result, slice_index_or, slice_set}
use Rattle.refusal.specs.Chains.{given, and_then}
use Rattle.secret.specs.declared.secret.Secret.{Secret}
use Rattle.table.specs.Table.{claimed_place}
use Rattle.memory.specs.Placement.{lowest_start}
use Rattle.memory.specs.Records.{made_file, zero_file}
use Rattle.memory.specs.Soundness.{Content}
use Rattle.store.specs.Kept.{after_file, file_number, grant_of}
use Rattle.store.specs.Outcomes.{Change}
use Rattle.store.specs.Parts.{with_part}
use Rattle.store.specs.Requests.{granted}
use Rattle.store.specs.State.{State}
use Rattle.store.specs.declared.create_file.Spot.{Spot}
use Rattle.store.specs.declared.error.StoreRefusal.{StoreRefusal}
use Rattle.store.specs.declared.error.StoreRefusal.TheVariants.{NoFreeRecord, NoStart}

-- where a new file goes: a place in the table, and a start in the area
abbrev pub spot_for : State → ℕ → Result Spot StoreRefusal
spot_for s len =
    given (claimed_place (λ r. r.live) s.memory.files s.kept.file_next) NoFreeRecord (λ p.
    given (lowest_start s.memory.files (length s.memory.area) len) NoStart
    (λ start. Ok (record { place = p; start = start })))

-- memory with a new file: a record made from the free one, and the bytes at its start
abbrev pub with_file : Content → List ℕ → Secret → Spot → Content
with_file m bs secret spot = record m {
  files =
      slice_set m.files spot.place
      (made_file (slice_index_or m.files spot.place zero_file) secret spot.start (length bs));
  area = with_part m.area spot.start bs;
}

-- the new file, with its owner capability told
abbrev pub new_file : State → List ℕ → Secret → Spot → Change
new_file s bs secret spot = record {
  told = granted (grant_of s.kept (file_number spot.place) secret);
  after =
      record { kept = after_file s.kept spot.place; memory = with_file s.memory bs secret spot };
}

abbrev pub file_creation : State → List ℕ → Secret → Result Change StoreRefusal
file_creation s bs secret =
    and_then (spot_for s (length bs)) (λ spot. Ok (new_file s bs secret spot))
