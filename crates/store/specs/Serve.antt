-- What any request comes to: its answer, and what it leaves behind.
use Rattle.std.specs.Prelude.{ℕ, ◌&&◌, List, length, replicate, Ok, Result, if◌then◌else◌}
use Rattle.refusal.specs.Chains.{and_then}
use Rattle.holder.specs.declared.capability.Capability.{Capability}
use Rattle.rows.specs.Changes.{row_of}
use Rattle.rows.specs.Paths.{names_in}
use Rattle.rows.specs.Search.{place_of_name, place_of_object}
use Rattle.admission.specs.declared.target.Target.{Target}
use Rattle.store.specs.CreateDirectory.{directory_creation}
use Rattle.store.specs.CreateFile.{file_creation}
use Rattle.store.specs.Destroy.{destructible_object, destruction}
use Rattle.store.specs.Enter.{room_in, with_row}
use Rattle.store.specs.LookUp.{lookup_at, walk_end_at}
use Rattle.store.specs.Order.{is_sized, result_of}
use Rattle.store.specs.Outcomes.{Change, Outcome, outcome, outcome_by}
use Rattle.store.specs.Read.{file_in, bytes_in}
use Rattle.store.specs.Remove.{without_row}
use Rattle.store.specs.Requests.{Query, read, size, look_up, walk, row, name, Update, create_file, create_directory, enter, remove, destroy, revoke, Ask, query, update, Told, the_bytes, the_size, found, the_name}
use Rattle.store.specs.Revoke.{revocation}
use Rattle.store.specs.Rows.{nth_place, wanted_row, name_at}
use Rattle.store.specs.Rules.{brings_secret, rule_of}
use Rattle.store.specs.Sizes.{sizes_agree}
use Rattle.store.specs.State.{State}
use Rattle.store.specs.declared.error.StoreRefusal.{StoreRefusal}
use Rattle.store.specs.declared.rule.Rule.{Rule}

-- the reply of a query at its object, once all checks passed
--
-- Only a look-up and a walk use the rights of the capability.
abbrev pub told_at : State → ℕ → Query → Target → Result Told StoreRefusal
told_at s rights read target = and_then (file_in target) (λ r. Ok (the_bytes (bytes_in s.memory r)))
told_at s rights size target = and_then (file_in target) (λ r. Ok (the_size r.length))
told_at s rights (look_up bs) target = and_then (lookup_at s rights bs 0 target) (λ c. Ok (found c))
told_at s rights (walk path) target =
    and_then (walk_end_at s rights (names_in path) 1 target) (λ c. Ok (found c))
told_at s rights (row n) target =
    and_then (wanted_row s.memory (nth_place n) 0 target)
    (λ at. Ok (the_name (name_at s.memory at)))
told_at s rights (name o) target =
    and_then (wanted_row s.memory (place_of_object o) 0 target)
    (λ at. Ok (the_name (name_at s.memory at)))

-- what an update that passed its checks comes to at its object
abbrev pub change_at : State → Update → Target → Result Change StoreRefusal
change_at s (create_file bs secret) target = file_creation s bs secret
change_at s (create_directory secret) target = directory_creation s secret
change_at s (enter bs c masks) target =
    and_then (room_in s bs c target) (λ d. Ok (with_row s (row_of bs c masks) d))
change_at s (remove bs) target =
    and_then (wanted_row s.memory (place_of_name bs) 0 target) (λ at. Ok (without_row s at))
change_at s destroy target = and_then (destructible_object target) (λ t. Ok (destruction s t))
change_at s (revoke secret) target = Ok (revocation s secret target)

-- the reply to a query, which changes nothing
abbrev pub reply_to : State → Capability → Query → Result Told StoreRefusal
reply_to s c q = result_of s (sizes_agree s) (rule_of (query q)) c (told_at s c.rights.bits q)

-- a scratch that is brought is zeros afterwards, whatever the answer; only where sizes are wrong it
-- is left as it was
abbrev pub scratch_after : State → Rule → List ℕ → List ℕ
scratch_after s rule scratch =
    if brings_secret rule.secret
    && is_sized s rule scratch then replicate (length scratch) 0 else scratch

-- the outcome of an update
abbrev pub outcome_of : State → Capability → Update → List ℕ → Outcome
outcome_of s c u scratch =
    outcome_by s (scratch_after s (rule_of (update u)) scratch)
    (result_of s (is_sized s (rule_of (update u)) scratch) (rule_of (update u)) c (change_at s u))

-- the outcome of any request
abbrev pub request_outcome : State → Capability → Ask → List ℕ → Outcome
request_outcome s c (query q) scratch = outcome (reply_to s c q) s scratch
request_outcome s c (update u) scratch = outcome_of s c u scratch
