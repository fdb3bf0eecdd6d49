-- The first line of a script: it makes the family, opens the store, and puts the owner capability
-- into the first pocket.
use Rattle.std.specs.Prelude.{ℕ, List, Some, Ok, Result}
use Rattle.refusal.specs.Chains.{and_then, refused_as, unless}
use Rattle.refusal.specs.declared.Refusal.{Refusal}
use Rattle.family.specs.Kinds.{family_over}
use Rattle.family.specs.Modulus.{is_lawful}
use Rattle.family.specs.Refusals.{family_refusal}
use Rattle.family.specs.declared.error.FamilyRefusal.TheVariants.{ModulusOutOfRange}
use Rattle.memory.specs.Soundness.{Content}
use Rattle.store.specs.Outcomes.{Change}
use Rattle.store.specs.Open.{opening}
use Rattle.store.specs.Errors.{store_refusal}
use Rattle.lines.specs.Reading.{store_in}
use Rattle.lines.specs.Refusals.{bad_line, line_refusal}
use Rattle.lines.specs.Forms.{Values}
use Rattle.lines.specs.Verbs.{store_forms}
use Rattle.lines.specs.declared.pocket.Pocket.{Pocket}
use Rattle.script.specs.Deeds.{secret_with}
use Rattle.script.specs.Pockets.{empty_pockets}
use Rattle.script.specs.Sessions.{LineOutcome, line_outcome, session_of}
use Rattle.script.specs.Tasks.{capability_told, clean, pockets_filled}

-- pocket 0 of holder A
abbrev pub first_pocket : Pocket
first_pocket = record { index = 0; number = 0 }

-- the session that begins with an opened store
abbrev pub first_outcome : Change → LineOutcome
first_outcome opened =
    line_outcome (Ok opened.told)
    (session_of (pockets_filled empty_pockets (Some first_pocket) (capability_told opened.told))
    opened.after)

-- the family is made first, and then the store is opened
abbrev pub store_opening : Content → Values store_forms → Result LineOutcome Refusal
store_opening m (family, (n, (port, (secret, end)))) =
    unless (is_lawful n) (family_refusal ModulusOutOfRange)
    (and_then
    (refused_as store_refusal
    (opening (family_over family n) (record { bytes = port }) (secret_with secret) m clean))
    (λ opened. Ok (first_outcome opened)))

-- what the first line of a script comes to
abbrev pub outcome_of_first : Content → List ℕ → Result LineOutcome Refusal
outcome_of_first m line =
    and_then (refused_as line_refusal (refused_as bad_line (store_in line))) (store_opening m)
