-- The first words of lines, and the forms of the words behind each.
use Rattle.std.specs.Prelude.{ℕ, Bool, true, false, List, [], ◌∷◌, ◌++◌, codes, find, Option, if◌then◌else◌}
use Rattle.std.specs.Str.{bytes_eq}
use Rattle.lines.specs.Forms.{Form, a_family, a_number, a_port, a_pocket, a_text, a_mask}
use Rattle.lines.specs.declared.verb.Verb.{Verb}
use Rattle.lines.specs.declared.verb.Verb.TheVariants.{File, Directory, Read, Size, Drop, Give, Enter, Remove, LookUp, Walk, Row, Name, Destroy, Revoke}

abbrev pub spelling : Verb → List ℕ
spelling File = codes "file"
spelling Directory = codes "dir"
spelling Read = codes "read"
spelling Size = codes "size"
spelling Drop = codes "drop"
spelling Give = codes "give"
spelling Enter = codes "enter"
spelling Remove = codes "out"
spelling LookUp = codes "look"
spelling Walk = codes "walk"
spelling Row = codes "row"
spelling Name = codes "name"
spelling Destroy = codes "kill"
spelling Revoke = codes "new"

abbrev pub verbs : List Verb
verbs =
    File ∷ Directory ∷ Read ∷ Size ∷ Drop ∷ Give ∷ Enter ∷ Remove ∷ LookUp ∷ Walk ∷ Row ∷ Name
    ∷ Destroy ∷ Revoke ∷ []

-- the verb that is spelled so
abbrev pub verb_of : List ℕ → Option Verb
verb_of word = find (λ verb. bytes_eq (spelling verb) word) verbs

-- the forms of a step's own words
abbrev pub own_forms : Verb → List Form
own_forms File = a_number ∷ a_text ∷ []
own_forms Directory = a_number ∷ []
own_forms Drop = a_number ∷ []
own_forms Enter = a_text ∷ a_pocket ∷ a_mask ∷ a_mask ∷ a_mask ∷ []
own_forms Remove = a_text ∷ []
own_forms LookUp = a_text ∷ []
own_forms Walk = a_text ∷ []
own_forms Row = a_number ∷ []
own_forms Name = a_pocket ∷ []
own_forms Revoke = a_number ∷ []
own_forms other = []

-- the step gives a capability, which fills a pocket
abbrev pub fills : Verb → Bool
fills File = true
fills Directory = true
fills Drop = true
fills Give = true
fills LookUp = true
fills Walk = true
fills Revoke = true
fills other = false

-- the words behind a verb: the pocket of the capability presented, the step's own words, and the
-- pocket that is filled, if one is
abbrev pub step_forms : Verb → List Form
step_forms verb = a_pocket ∷ (own_forms verb ++ (if fills verb then a_pocket ∷ [] else []))

-- the first word of a line that opens a store, and the words behind it: the letter of its family, a
-- modulus, a port and a secret
abbrev pub store_word : List ℕ
store_word = codes "store"

abbrev pub store_forms : List Form
store_forms = a_family ∷ a_number ∷ a_port ∷ a_number ∷ []
