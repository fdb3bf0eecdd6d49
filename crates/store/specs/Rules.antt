-- What each request asks for, request by request.
use Rattle.std.specs.Prelude.{ℕ, Bool, true, false, List, Ok, Result}
use Rattle.refusal.specs.Chains.{unless}
use Rattle.memory.specs.Names.{is_lawful_name}
use Rattle.rows.specs.Paths.{is_lawful_path}
use Rattle.admission.specs.Needs.{only_store, only_files, only_directories}
use Rattle.admission.specs.declared.need.Need.{Need}
use Rattle.store.specs.Requests.{read, size, look_up, walk, row, name, create_file, create_directory, enter, remove, destroy, revoke, Ask, query, update}
use Rattle.store.specs.declared.error.StoreRefusal.{StoreRefusal}
use Rattle.store.specs.declared.error.StoreRefusal.TheVariants.{BadName, BadPath}
use Rattle.store.specs.declared.rule.Rule.{Rule}
use Rattle.store.specs.declared.rule.Bring.{Bring}
use Rattle.store.specs.declared.rule.Bring.TheVariants.{Nothing, First, Next}

-- a name that is brought is lawful, or the request is refused for its form
abbrev pub name_form : List ℕ → Result (Unit {0}) StoreRefusal
name_form bs = unless (is_lawful_name bs) BadName (Ok tt)

-- so is a path, which is judged once and as a whole
abbrev pub path_form : List ℕ → Result (Unit {0}) StoreRefusal
path_form path = unless (is_lawful_path path) BadPath (Ok tt)

-- the kinds of objects that may be asked, and the rights of which one is wanted: right k is bit k
abbrev pub to_read : Need
to_read = record { kinds = only_files; rights = 1 }

abbrev pub to_size : Need
to_size = record { kinds = only_files; rights = 2 }

abbrev pub to_see : Need
to_see = record { kinds = only_directories; rights = 7 }

abbrev pub to_list : Need
to_list = record { kinds = only_directories; rights = 8 }

abbrev pub to_create_file : Need
to_create_file = record { kinds = only_store; rights = 1 }

abbrev pub to_create_directory : Need
to_create_directory = record { kinds = only_store; rights = 2 }

abbrev pub to_destroy : Need
to_destroy =
    record { kinds = record { store = false; files = true; directories = true }; rights = 16 }

abbrev pub to_revoke : Need
to_revoke =
    record { kinds = record { store = true; files = true; directories = true }; rights = 32 }

-- a request that brings nothing of a form, and no secret
abbrev pub plain : Need → Rule
plain need = record { need = need; form = Ok tt; place = 0; secret = Nothing }

-- what is asked of the capability, the form of what is brought, where a denial is told, and the
-- secret that is brought
abbrev pub rule_of : Ask → Rule
rule_of (query read) = plain to_read
rule_of (query size) = plain to_size
rule_of (query (look_up bs)) = record (plain to_see) { form = name_form bs }
rule_of (query (walk path)) = record (plain to_see) { form = path_form path; place = 1 }
rule_of (query (row n)) = plain to_see
rule_of (query (name o)) = plain to_see
rule_of (update (create_file bs secret)) = record (plain to_create_file) { secret = First secret }
rule_of (update (create_directory secret)) =
    record (plain to_create_directory) { secret = First secret }
rule_of (update (enter bs c masks)) = record (plain to_list) { form = name_form bs }
rule_of (update (remove bs)) = record (plain to_list) { form = name_form bs }
rule_of (update destroy) = plain to_destroy
rule_of (update (revoke secret)) = record (plain to_revoke) { secret = Next secret }

-- a secret is brought, and with it a scratch
abbrev pub brings_secret : Bring → Bool
brings_secret Nothing = false
brings_secret (First secret) = true
brings_secret (Next secret) = true
