-- A line carried out: its answer, and what it leaves in the pockets, in the store and in memory.
use Rattle.std.specs.Prelude.{ℕ, List, replicate, Some, None, Option, Ok, Err, Result}
use Rattle.refusal.specs.Chains.{refused_as}
use Rattle.refusal.specs.declared.Refusal.{Refusal}
use Rattle.holder.specs.Dropping.{drop_right}
use Rattle.holder.specs.Refusals.{holder_refusal}
use Rattle.holder.specs.declared.error.HolderRefusal.{HolderRefusal}
use Rattle.holder.specs.declared.capability.Capability.{Capability}
use Rattle.store.specs.Outcomes.{Outcome}
use Rattle.store.specs.Errors.{store_refusal}
use Rattle.store.specs.Requests.{Told, granted, found}
use Rattle.store.specs.Serve.{request_outcome}
use Rattle.lines.specs.Reading.{task_in}
use Rattle.lines.specs.Refusals.{bad_line, line_refusal}
use Rattle.lines.specs.Steps.{TaskValues}
use Rattle.lines.specs.declared.error.LineRefusal.{LineRefusal}
use Rattle.lines.specs.declared.pocket.Pocket.{Pocket}
use Rattle.script.specs.Deeds.{Deed, ask, deed_of, drop, give}
use Rattle.script.specs.Pockets.{capability_in, pockets_with}
use Rattle.script.specs.Sessions.{LineOutcome, SessionState, line_outcome, session_of}

-- what follows, where the line is not refused yet; a refused line leaves everything as it was
abbrev pub or_refusal : {A : Type 0} → SessionState → Result A LineRefusal → (A → LineOutcome)
    → LineOutcome
or_refusal s (Ok a) next = next a
or_refusal s (Err e) next = line_outcome (Err (line_refusal e)) s

-- the scratch that is brought
abbrev pub clean : List ℕ
clean = replicate 256 0

-- an outcome of the store
abbrev pub store_outcome : SessionState → Outcome → LineOutcome
store_outcome s o =
    line_outcome (refused_as store_refusal o.answer)
    (session_of s.pockets o.after)

-- a capability that the holders' part gives is told as one that is found
abbrev pub told_by_hand : Result Capability HolderRefusal → Result Told Refusal
told_by_hand (Ok c) = Ok (found c)
told_by_hand (Err e) = Err (holder_refusal e)

-- the store is asked with a clean scratch; dropping a right needs the functions of its family;
-- giving on needs nothing
abbrev pub deed_outcome : SessionState → Capability → Deed → LineOutcome
deed_outcome s c (ask a) = store_outcome s (request_outcome s.store c a clean)
deed_outcome s c (drop right) =
    line_outcome (told_by_hand (drop_right s.store.kept.family c right)) s
deed_outcome s c give = line_outcome (Ok (found c)) s

-- the capability that is told, if one is
abbrev pub capability_told : Told → Option Capability
capability_told (granted c) = Some c
capability_told (found c) = Some c
capability_told other = None

-- the pockets once the target is filled with the capability that is told; nothing else changes
abbrev pub pockets_filled : List (Option Capability) → Option Pocket → Option Capability
    → List (Option Capability)
pockets_filled pockets (Some pocket) (Some c) = pockets_with pockets pocket c
pockets_filled pockets (Some pocket) None = pockets
pockets_filled pockets None c = pockets

abbrev pub session_filled : SessionState → Option Pocket → Result Told Refusal → SessionState
session_filled s to (Ok told) =
    session_of (pockets_filled s.pockets to (capability_told told)) s.store
session_filled s to (Err e) = s

abbrev pub outcome_filled : Option Pocket → LineOutcome → LineOutcome
outcome_filled to o = line_outcome o.told (session_filled o.after to o.told)

-- the pocket presented is read first, then those among the step's own words, and then the step is
-- carried out
abbrev pub task_outcome : SessionState → TaskValues → LineOutcome
task_outcome s task =
    or_refusal s (capability_in s.pockets task.presented) (λ c.
    or_refusal s (deed_of s.pockets task.step) (λ deed.
    outcome_filled task.target (deed_outcome s c deed)))

-- what a line of a session comes to
abbrev pub outcome_of_line : SessionState → List ℕ → LineOutcome
outcome_of_line s line = or_refusal s (refused_as bad_line (task_in line)) (task_outcome s)
