-- What the answers say of a capability: the judgement at the gate shows through every request that
-- gets there.
use Rattle.std.proofs.Common.{◌≡◌, ℕ, Bool, true, false, ◌&&◌, List, length, is_err, IfErr, Ok, Err, Result, sym, refl, ap, ◌∙◌, subst, inl, inr, if◌then◌else◌}
use Rattle.std.proofs.lemmas.Bool.{cases_Bool, false≢true}
use Rattle.refusal.specs.Chains.{unless, given, and_then, refused_as}
use Rattle.holder.specs.Dropping.{check_number}
use Rattle.holder.specs.declared.capability.Capability.{Capability}
use Rattle.secret.specs.Accepted.{is_accepted}
use Rattle.memory.specs.Names.{is_lawful_name}
use Rattle.std.specs.Str.{bytes_eq}
use Rattle.admission.specs.Admission.{authorized_target}
use Rattle.admission.specs.Objects.{target_at, secret_of, object_number}
use Rattle.admission.specs.declared.error.Denial.{Denial}
use Rattle.admission.specs.declared.error.Denial.TheVariants.{WrongPort, NoSuchObject, WrongCheck}
use Rattle.admission.specs.declared.target.Target.{Target}
use Rattle.rows.specs.Paths.{names_in, is_lawful_path}
use Rattle.rows.specs.Search.{place_of_name, place_of_object}
use Rattle.store.specs.Outcomes.{Change, outcome_by, told_as}
use Rattle.store.specs.CreateFile.{spot_for}
use Rattle.store.specs.CreateDirectory.{place_for}
use Rattle.store.specs.Destroy.{destructible_object}
use Rattle.store.specs.Rows.{nth_place, wanted_row}
use Rattle.store.specs.Enter.{room_in}
use Rattle.store.specs.LookUp.{lookup_at, walk_end_at}
use Rattle.store.specs.Read.{file_in}
use Rattle.store.specs.Requests.{Query, read, size, look_up, walk, row, name, Update, create_file, create_directory, enter, remove, destroy, revoke, Ask, query, update, Told}
use Rattle.store.specs.Rules.{rule_of, brings_secret}
use Rattle.store.specs.Sizes.{is_full_scratch, sizes_agree}
use Rattle.store.specs.Serve.{told_at, change_at, scratch_after}
use Rattle.store.specs.Order.{IsInOrder, authorized_object, is_sized, is_usable, result_of}
use Rattle.store.specs.State.{State, is_sound_for}
use Rattle.runs.specs.History.{call_with, answer_in}
use Rattle.store.specs.declared.error.StoreRefusal.{StoreRefusal}
use Rattle.store.specs.declared.error.StoreRefusal.TheVariants.{WrongSizes, UnsoundMemory, UnfitSecret, BadName, BadPath, Denied}
use Rattle.runs.specs.Acceptance.{is_early, is_turned_away}
use Rattle.runs.proofs.Lateness.{Late, judged_in, late_secret, file_late, destructible_late, spot_late, place_late, row_in_late, room_late, looked_late, permitted_late}
use Rattle.runs.proofs.Looks.{LawfulStore, walked_on_late}
use Rattle.rows.proofs.PathFacts.{parted}
use Rattle.refusal.proofs.ChainFacts.{refused_unless, refused_given, refused_then, refused_told}
use Rattle.runs.proofs.Entered.{decision}
use Rattle.store.proofs.OrderFacts.{told_result}

-- a refusal for the capability
pub record ForIt (e : StoreRefusal) : Type 0 where
  pub not_early : is_early (Err e) ≡ false
  pub for_it : is_turned_away (Err e) ≡ true

-- what an admitted request is answered at its object
abbrev pub replied : State → ℕ → Ask → Target → Result Told StoreRefusal
replied s rights (query q) t = told_at s rights q t
replied s rights (update u) t = told_as (λ change. change.told) (change_at s u t)

-- the scratch has its size where one is needed
abbrev pub scratch_fits : Ask → List ℕ → Bool
scratch_fits ask x = if brings_secret (rule_of ask).secret then is_full_scratch x else true

-- a query brings no secret, and a refusal for its form comes early
query_rule : (q : Query) → (brings_secret (rule_of (query q)).secret ≡ false)
    × IfErr (rule_of (query q)).form (λ e. is_early (Err e) ≡ true)
query_rule read = (refl, tt)
query_rule size = (refl, tt)
query_rule (look_up bs) = (
  refl,
  refused_unless (λ e. is_early (Err e) ≡ true) (is_lawful_name bs) BadName (Ok tt) refl tt,
)
query_rule (walk path) = (
  refl,
  refused_unless (λ e. is_early (Err e) ≡ true) (is_lawful_path path) BadPath (Ok tt) refl tt,
)
query_rule (row n) = (refl, tt)
query_rule (name o) = (refl, tt)

-- the answer to any request, as one result
abbrev pub result_in : State → Capability → Ask → List ℕ → Result Told StoreRefusal
result_in s c ask x =
    result_of s (is_sized s (rule_of ask) x) (rule_of ask) c (replied s c.rights.bits ask)

pub answer_result : (s : State) (c : Capability) (ask : Ask) (x : List ℕ)
    → answer_in s (call_with c ask x) ≡ result_in s c ask x
answer_result s c (query q) x =
    sym (ap (λ b. result_of s (if b then (sizes_agree s && is_full_scratch x) else sizes_agree s)
    (rule_of (query q)) c (told_at s c.rights.bits q)) (query_rule q).0)
answer_result s c (update u) x =
    made (decision s c u x)
    ∙ told_result (told_as (λ change. change.told)) (λ e. refl) s
    (is_sized s (rule_of (update u)) x) (rule_of (update u)) c (change_at s u)
  where
    made : (r : Result Change StoreRefusal)
        → (outcome_by s (scratch_after s (rule_of (update u)) x) r).answer
        ≡ told_as (λ change. change.told) r
    made (Ok change) = refl
    made (Err e) = refl

-- what an admitted request refuses on its own comes late
told_late : (s : State) → IsInOrder s → LawfulStore s.kept → (rights : ℕ) (q : Query) (t : Target)
    → IfErr (told_at s rights q t) Late
told_late s order lawful rights read t = refused_then Late (file_in t) _ (file_late t) (λ r. tt)
told_late s order lawful rights size t = refused_then Late (file_in t) _ (file_late t) (λ r. tt)
told_late s order lawful rights (look_up bs) t =
    refused_then Late (lookup_at s rights bs 0 t) _ (looked_late s rights bs 0 t) (λ c. tt)
told_late s order lawful rights (walk path) t =
    refused_then Late (walk_end_at s rights (names_in path) 1 t) _
    (walked_on_late s order lawful rights (names_in path) 1 t ((parted path).some)) (λ c. tt)
told_late s order lawful rights (row n) t =
    refused_then Late (wanted_row s.memory (nth_place n) 0 t) _
    (row_in_late s.memory (nth_place n) 0 t) (λ at. tt)
told_late s order lawful rights (name o) t =
    refused_then Late (wanted_row s.memory (place_of_object o) 0 t) _
    (row_in_late s.memory (place_of_object o) 0 t) (λ at. tt)

changed_late : (s : State) (u : Update) (t : Target) → IfErr (change_at s u t) Late
changed_late s (create_file bs secret) t =
    refused_then Late (spot_for s (length bs)) _ (spot_late s (length bs)) (λ spot. tt)
changed_late s (create_directory secret) t =
    refused_then Late (place_for s) _ (place_late s) (λ p. tt)
changed_late s (enter bs entry masks) t =
    refused_then Late (room_in s bs entry t) _ (room_late s bs entry t) (λ d. tt)
changed_late s (remove bs) t =
    refused_then Late (wanted_row s.memory (place_of_name bs) 0 t) _
    (row_in_late s.memory (place_of_name bs) 0 t) (λ at. tt)
changed_late s destroy t =
    refused_then Late (destructible_object t) _ (destructible_late t) (λ s. tt)
changed_late s (revoke secret) t = tt

replied_late : (s : State) → IsInOrder s → LawfulStore s.kept
    → (rights : ℕ) (ask : Ask) (t : Target) → IfErr (replied s rights ask t) Late
replied_late s order lawful rights (query q) t = told_late s order lawful rights q t
replied_late s order lawful rights (update u) t = by (change_at s u t) (changed_late s u t)
  where
    by : (r : Result Change StoreRefusal) → IfErr r Late
        → IfErr (told_as (λ change. change.told) r) Late
    by (Ok change) h = tt
    by (Err e) h = h

judged_for_it : (s : State) (c : Capability) (place : ℕ)
    → IfErr (judged_in s c) (λ d. ForIt (Denied d place))
judged_for_it s c place =
    let check : Target → Result Target Denial = λ t.
    unless (is_accepted s.kept.family (secret_of s.kept.own t).value c.rights.bits (check_number c))
    WrongCheck (Ok t) in
    refused_unless (λ d. ForIt (Denied d place)) (bytes_eq c.port.bytes s.kept.port.bytes) WrongPort
    (given (target_at s.memory (object_number c)) NoSuchObject check)
    (record { not_early = refl; for_it = refl })
    (refused_given (λ d. ForIt (Denied d place)) (target_at s.memory (object_number c)) NoSuchObject
    check (record { not_early = refl; for_it = refl }) (λ t.
    refused_unless (λ d. ForIt (Denied d place))
    (is_accepted s.kept.family (secret_of s.kept.own t).value c.rights.bits (check_number c))
    WrongCheck (Ok t)
    (record { not_early = refl; for_it = refl }) tt))

-- what follows at an object, and what follows from the judgement
abbrev pub at_target : State → Capability → Ask → Target → Result Told StoreRefusal
at_target s c ask target =
    unless (is_usable s target (rule_of ask).secret) UnfitSecret
    (replied s c.rights.bits ask target)

abbrev pub onward : State → Capability → Ask → Result Target Denial → Result Told StoreRefusal
onward s c ask r =
    and_then (refused_as (λ d. Denied d (rule_of ask).place) r) (λ object.
    and_then (authorized_object (rule_of ask).need (rule_of ask).place c object)
    (at_target s c ask))

-- what an answer of such a request shows
abbrev Shows : Result Target Denial → Result Told StoreRefusal → Type 0
Shows r answer = (is_early answer ≡ false) × (is_turned_away answer ≡ is_err r)

late_shows : (r : Result Told StoreRefusal) → IfErr r Late
    → (is_early r ≡ false) × (is_turned_away r ≡ false)
late_shows (Ok told) h = (refl, refl)
late_shows (Err e) h = (h.not_early, h.not_for_it)

onward_shows : (s : State) → IsInOrder s → LawfulStore s.kept
    → (c : Capability) (ask : Ask) (r : Result Target Denial)
    → IfErr r (λ d. ForIt (Denied d (rule_of ask).place)) → Shows r (onward s c ask r)
onward_shows s order lawful c ask (Err d) h = (h.not_early, h.for_it)
onward_shows s order lawful c ask (Ok t) h =
    let rule = rule_of ask in
    let told : Denial → StoreRefusal = λ d. Denied d rule.place in
    late_shows (onward s c ask (Ok t))
    (refused_then Late (refused_as told (authorized_target rule.need t c.rights.bits))
    (at_target s c ask)
    (refused_told Late told (authorized_target rule.need t c.rights.bits)
    (permitted_late rule.need rule.place t c.rights.bits))
    (λ target. refused_unless Late (is_usable s target rule.secret) UnfitSecret
    (replied s c.rights.bits ask target) late_secret
    (replied_late s order lawful c.rights.bits ask target)))

-- a refusal for the form of what is brought comes early
form_early : (ask : Ask) → IfErr (rule_of ask).form (λ e. is_early (Err e) ≡ true)
form_early (query q) = (query_rule q).1
form_early (update (create_file bs secret)) = tt
form_early (update (create_directory secret)) = tt
form_early (update (enter bs entry masks)) =
    refused_unless (λ e. is_early (Err e) ≡ true) (is_lawful_name bs) BadName (Ok tt) refl tt
form_early (update (remove bs)) =
    refused_unless (λ e. is_early (Err e) ≡ true) (is_lawful_name bs) BadName (Ok tt) refl tt
form_early (update destroy) = tt
form_early (update (revoke secret)) = tt

module _ (s : State) (order : IsInOrder s) (lawful : LawfulStore s.kept) (c : Capability)
    (ask : Ask) (x : List ℕ) where
  -- the answer where the request's sizes and its form are judged so, over memory in order
  abbrev formed : Bool → Result (Unit {0}) StoreRefusal → Result Told StoreRefusal
  formed fits form = unless fits WrongSizes (and_then form (λ _. onward s c ask (judged_in s c)))

  -- with sizes and soundness in order, only the scratch and the form decide whether a request gets
  -- to the judgement
  answer_in_order : answer_in s (call_with c ask x) ≡ formed (scratch_fits ask x) (rule_of ask).form
  answer_in_order =
      answer_result s c ask x
      ∙ ap (λ z. unless (if brings_secret (rule_of ask).secret then (z && is_full_scratch x) else z)
      WrongSizes
      (unless (is_sound_for s) UnsoundMemory
      (and_then (rule_of ask).form (λ _. onward s c ask (judged_in s c))))) order.sizes
      ∙ ap (λ b. unless (scratch_fits ask x) WrongSizes
      (unless b UnsoundMemory (and_then (rule_of ask).form
      (λ _. onward s c ask (judged_in s c))))) order.sound

  -- a request with a full scratch and a right form gets to the judgement, and shows it
  pub full_shows : scratch_fits ask x ≡ true → (u : Unit {0}) → (rule_of ask).form ≡ Ok u
      → Shows (judged_in s c) (answer_in s (call_with c ask x))
  full_shows fits u form =
      subst (Shows (judged_in s c))
      (sym (answer_in_order ∙ ap (λ b. formed b (rule_of ask).form) fits
      ∙ ap (formed true) form))
      (onward_shows s order lawful c ask (judged_in s c) (judged_for_it s c (rule_of ask).place))

  -- and any other does not get there
  short_early : scratch_fits ask x ≡ false → is_early (answer_in s (call_with c ask x)) ≡ true
  short_early short = ap is_early (answer_in_order ∙ ap (λ b. formed b (rule_of ask).form) short)

  misformed_early : scratch_fits ask x ≡ true → (e : StoreRefusal) → (rule_of ask).form ≡ Err e
      → is_early (Err e) ≡ true → is_early (answer_in s (call_with c ask x)) ≡ true
  misformed_early fits e form early_form =
      ap is_early (answer_in_order ∙ ap (λ b. formed b (rule_of ask).form) fits
      ∙ ap (formed true) form) ∙ early_form

  -- so every request that gets there shows the judgement
  pub reaching_shows : is_early (answer_in s (call_with c ask x)) ≡ false
      → is_turned_away (answer_in s (call_with c ask x)) ≡ is_err (judged_in s c)
  reaching_shows reaches = elim (cases_Bool (scratch_fits ask x)) [
    | inl fits ↦ by_form fits (rule_of ask).form refl (form_early ask)
    | inr short ↦ absurd (false≢true (sym reaches ∙ short_early short))
  ]
    where
      by_form : scratch_fits ask x ≡ true → (form : Result (Unit {0}) StoreRefusal)
          → (rule_of ask).form ≡ form → IfErr form (λ e. is_early (Err e) ≡ true)
          → is_turned_away (answer_in s (call_with c ask x)) ≡ is_err (judged_in s c)
      by_form fits (Ok u) form h = (full_shows fits u form).1
      by_form fits (Err e) form h =
          absurd (false≢true (sym reaches ∙ misformed_early fits e form h))
