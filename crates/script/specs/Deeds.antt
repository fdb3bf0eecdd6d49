-- What a step comes to once the pockets that it names are read: the table from steps to requests.
use Rattle.std.specs.Prelude.{ℕ, List, Ok, Err, Option, Result}
use Rattle.refusal.specs.Chains.{and_then}
use Rattle.holder.specs.declared.capability.Capability.{Capability}
use Rattle.memory.specs.declared.row.Masks.{Masks}
use Rattle.secret.specs.declared.secret.Secret.{Secret}
use Rattle.store.specs.Values.{ask_of}
use Rattle.store.specs.Requests.{read, size, look_up, walk, row, name, create_file, create_directory, enter, remove, destroy, revoke, Ask, query, update}
use Rattle.lines.specs.Forms.{Values}
use Rattle.lines.specs.Steps.{StepValues}
use Rattle.lines.specs.Verbs.{own_forms}
use Rattle.lines.specs.declared.error.LineRefusal.{LineRefusal}
use Rattle.lines.specs.declared.verb.Verb.{Verb}
use Rattle.lines.specs.declared.verb.Verb.TheVariants.{File, Directory, Read, Size, Drop, Give, Enter, Remove, LookUp, Walk, Row, Name, Destroy, Revoke}
use Rattle.script.specs.Pockets.{capability_in}
use Rattle.script.specs.declared.deed.Deed.{Deed as MadeDeed}
use Rattle.script.specs.declared.deed.Deed.TheVariants as made

-- a request to the store, a right to be dropped, or a capability to be given on as it is
pub data Deed : Type 0 where
  ask : Ask → Deed
  drop : ℕ → Deed
  give : Deed

abbrev pub secret_with : ℕ → Secret
secret_with n = record { value = n }

abbrev pub masks_of : ℕ → ℕ → ℕ → Masks
masks_of works inspector buyer = record {
  works = record { bits = works };
  inspector = record { bits = inspector };
  buyer = record { bits = buyer };
}

-- what a verb comes to with the values of its own words; a pocket among them is read
abbrev pub deed_with : List (Option Capability) → (verb : Verb) → Values (own_forms verb)
    → Result Deed LineRefusal
deed_with pockets File (secret, (text, end)) =
    Ok (ask (update (create_file text.bytes (secret_with secret))))
deed_with pockets Directory (secret, end) =
    Ok (ask (update (create_directory (secret_with secret))))
deed_with pockets Read end = Ok (ask (query read))
deed_with pockets Size end = Ok (ask (query size))
deed_with pockets Drop (right, end) = Ok (drop right)
deed_with pockets Give end = Ok give
deed_with pockets Enter (called, (entry, (works, (inspector, (buyer, end))))) =
    and_then (capability_in pockets entry) (λ c.
    Ok (ask (update (enter called.bytes c (masks_of works inspector buyer)))))
deed_with pockets Remove (called, end) = Ok (ask (update (remove called.bytes)))
deed_with pockets LookUp (called, end) = Ok (ask (query (look_up called.bytes)))
deed_with pockets Walk (path, end) = Ok (ask (query (walk path.bytes)))
deed_with pockets Row (n, end) = Ok (ask (query (row n)))
deed_with pockets Name (entry, end) =
    and_then (capability_in pockets entry) (λ c. Ok (ask (query (name c.object.value))))
deed_with pockets Destroy end = Ok (ask (update destroy))
deed_with pockets Revoke (secret, end) = Ok (ask (update (revoke (secret_with secret))))

abbrev pub deed_of : List (Option Capability) → StepValues → Result Deed LineRefusal
deed_of pockets step = deed_with pockets step.verb step.own

-- what a deed of the code is
abbrev pub deed_values : MadeDeed → Deed
deed_values (made.Ask request) = ask (ask_of request)
deed_values (made.Drop right) = drop right
deed_values made.Give = give

abbrev pub deed_by : Result MadeDeed LineRefusal → Result Deed LineRefusal
deed_by (Ok deed) = Ok (deed_values deed)
deed_by (Err e) = Err e
