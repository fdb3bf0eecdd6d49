-- The order of checks as the code parts it: the object that is admitted, and what is decided on
-- there.
use Rattle.std.proofs.Common.{◌≡◌, ℕ, Bool, true, false, ◌&&◌, List, [], length, replicate, Ok, Err, Result, if◌then◌else◌, sym, refl, ap, ◌∙◌, IfErr, rules}
use Rattle.std.proofs.lemmas.Bool.{and_parts}
use Rattle.refusal.specs.Chains.{unless, and_then, refused_as}
use Rattle.refusal.proofs.ChainFacts.{unless_ok, and_then_ok, refused_as_ok}
use Rattle.holder.specs.declared.capability.Capability.{Capability}
use Rattle.memory.specs.declared.row.Masks.{Masks}
use Rattle.admission.specs.Admission.{authentic_target, authorized_target}
use Rattle.admission.specs.declared.error.Denial.{Denial}
use Rattle.admission.specs.declared.target.Target.{Target}
use Rattle.rows.specs.Changes.{row_of}
use Rattle.rows.specs.Search.{place_of_name, place_of_object}
use Rattle.store.specs.Enter.{room_in, with_row}
use Rattle.store.specs.Inside.{admitted_by, attempt_of}
use Rattle.store.specs.Order.{authentic_object, authorized_object, is_sized, is_usable, result_of}
use Rattle.store.specs.Outcomes.{Change, Outcome, outcome, outcome_by, told_as}
use Rattle.store.specs.Read.{file_in, bytes_in}
use Rattle.store.specs.Remove.{without_row}
use Rattle.store.specs.Requests.{Told, the_bytes, the_size, the_name, read, size, row, name, Update, enter, remove, destroy, update}
use Rattle.store.specs.Rows.{nth_place, wanted_row, name_at}
use Rattle.store.specs.Rules.{brings_secret, rule_of, plain, to_read, to_size, to_see}
use Rattle.store.specs.Serve.{change_at, outcome_of, reply_to, told_at}
use Rattle.store.specs.Sizes.{sizes_agree, is_full_scratch}
use Rattle.store.specs.State.{State, is_sound_for}
use Rattle.store.specs.declared.error.StoreRefusal.{StoreRefusal}
use Rattle.store.specs.declared.error.StoreRefusal.TheVariants.{WrongSizes, UnsoundMemory, UnfitSecret, Denied}
use Rattle.store.specs.declared.rule.Rule.{Rule}

-- sizes, soundness, form and gate first, and then what is decided on at the object
pub parted : {A : Type 0} (s : State) (rule : Rule) (c : Capability)
    (execute : Target → Result A StoreRefusal)
    → result_of s (sizes_agree s) rule c execute
    ≡ and_then (admitted_by s rule c)
    (λ target. unless (is_usable s target rule.secret) UnfitSecret (execute target))
parted {A} s rule c execute =
    by (sizes_agree s) (is_sound_for s) rule.form
    (authentic_target s.kept.family s.kept.port.bytes s.kept.own s.memory c)
  where
    next : Target → Result A StoreRefusal
    next target = unless (is_usable s target rule.secret) UnfitSecret (execute target)

    told : Denial → StoreRefusal
    told d = Denied d rule.place

    by : (sized sound : Bool) (form : Result (Unit {0}) StoreRefusal) (x : Result Target Denial)
        → unless sized WrongSizes (unless sound UnsoundMemory (and_then form (λ _.
        and_then (refused_as told x)
        (λ object. and_then (authorized_object rule.need rule.place c object) next))))
        ≡ and_then (and_then (unless sized WrongSizes (unless sound UnsoundMemory form)) (λ _.
        refused_as told (and_then x (λ object. authorized_target rule.need object c.rights.bits))))
        next
    by false sound form x = refl
    by true false form x = refl
    by true true (Err e) x = refl
    by true true (Ok u) (Err d) = refl
    by true true (Ok u) (Ok t) = refl

-- what is told of a result is the result of what is told at the object
pub told_result : {A B : Type 0} (tell : Result A StoreRefusal → Result B StoreRefusal)
    → ((e : StoreRefusal) → tell (Err e) ≡ Err e)
    → (s : State) (sized : Bool) (rule : Rule) (c : Capability)
    (execute : Target → Result A StoreRefusal)
    → tell (result_of s sized rule c execute)
    ≡ result_of s sized rule c (λ target. tell (execute target))
told_result {A} {B} tell refused s sized rule c execute =
    by sized (is_sound_for s) rule.form (authentic_object s rule.place c)
  where
    at_usable : (b : Bool) (r : Result A StoreRefusal)
        → tell (unless b UnfitSecret r) ≡ unless b UnfitSecret (tell r)
    at_usable true r = refl
    at_usable false r = refused UnfitSecret

    at_target : (r : Result Target StoreRefusal)
        → tell (and_then r (λ target. unless (is_usable s target rule.secret) UnfitSecret
        (execute target)))
        ≡ and_then r (λ target. unless (is_usable s target rule.secret) UnfitSecret
        (tell (execute target)))
    at_target (Ok target) = at_usable (is_usable s target rule.secret) (execute target)
    at_target (Err e) = refused e

    by : (sized sound : Bool) (form : Result (Unit {0}) StoreRefusal)
        (x : Result Target StoreRefusal)
        → tell (unless sized WrongSizes
        (unless sound UnsoundMemory (and_then form (λ _. and_then x (λ object.
        and_then (authorized_object rule.need rule.place c object)
        (λ target. unless (is_usable s target rule.secret) UnfitSecret (execute target)))))))
        ≡ unless sized WrongSizes
        (unless sound UnsoundMemory (and_then form (λ _. and_then x (λ object.
        and_then (authorized_object rule.need rule.place c object)
        (λ target. unless (is_usable s target rule.secret) UnfitSecret
        (tell (execute target)))))))
    by false sound form x = refused WrongSizes
    by true false form x = refused UnsoundMemory
    by true true (Err e) x = refused e
    by true true (Ok u) (Err e) = refused e
    by true true (Ok u) (Ok object) = at_target (authorized_object rule.need rule.place c object)

-- what is not refused passed each check, and was executed at an object
pub record Executed {A : Type 0} (s : State) (sized : Bool) (rule : Rule) (c : Capability)
    (execute : Target → Result A StoreRefusal) (a : A) : Type 0 where
  pub fits : sized ≡ true
  pub sound : is_sound_for s ≡ true
  pub unit : Unit {0}
  pub form : rule.form ≡ Ok unit
  pub object : Target
  pub authentic : authentic_target s.kept.family s.kept.port.bytes s.kept.own s.memory c ≡ Ok object
  pub target : Target
  pub authorized : authorized_target rule.need object c.rights.bits ≡ Ok target
  pub usable : is_usable s target rule.secret ≡ true
  pub made : execute target ≡ Ok a

module _ {A : Type 0} (s : State) (sized : Bool) (rule : Rule) (c : Capability)
    (execute : Target → Result A StoreRefusal) (a : A) where
  abbrev told : Denial → StoreRefusal
  told d = Denied d rule.place

  abbrev at_target : Target → Result A StoreRefusal
  at_target target = unless (is_usable s target rule.secret) UnfitSecret (execute target)

  abbrev at_object : Target → Result A StoreRefusal
  at_object object = and_then (authorized_object rule.need rule.place c object) at_target

  pub executed : result_of s sized rule c execute ≡ Ok a → Executed s sized rule c execute a
  executed e =
      let fits = unless_ok sized WrongSizes _ a e in
      let sound = unless_ok (is_sound_for s) UnsoundMemory _ a fits.1 in
      let form =
      and_then_ok rule.form (λ _. and_then (authentic_object s rule.place c) at_object) a
      sound.1 in
      let object = and_then_ok (authentic_object s rule.place c) at_object a form.1.1 in
      let target =
      and_then_ok (authorized_object rule.need rule.place c object.0) at_target a object.1.1 in
      let usable =
      unless_ok (is_usable s target.0 rule.secret) UnfitSecret (execute target.0) a
      target.1.1 in
      record {
        fits = fits.0;
        sound = sound.0;
        unit = form.0;
        form = form.1.0;
        object = object.0;
        authentic = refused_as_ok told _ object.0 object.1.0;
        target = target.0;
        authorized = refused_as_ok told _ target.0 target.1.0;
        usable = usable.0;
        made = usable.1;
      }

  -- and what passes each check is executed
  pub executes : Executed s sized rule c execute a → result_of s sized rule c execute ≡ Ok a
  executes x =
      ap (λ b. unless b WrongSizes
      (unless (is_sound_for s) UnsoundMemory
      (and_then rule.form (λ _. and_then (authentic_object s rule.place c) at_object))))
      x.fits
      ∙ ap (λ b. unless b UnsoundMemory
      (and_then rule.form (λ _. and_then (authentic_object s rule.place c) at_object))) x.sound
      ∙ ap (λ r. and_then r (λ _. and_then (authentic_object s rule.place c) at_object)) x.form
      ∙ ap (λ r. and_then (refused_as told r) at_object) x.authentic
      ∙ ap (λ r. and_then (refused_as told r) at_target) x.authorized
      ∙ ap (λ b. unless b UnfitSecret (execute x.target)) x.usable
      ∙ x.made

-- sizes agree where they are right with a scratch
pub sized_agree : (s : State) (rule : Rule) (scratch : List ℕ) → is_sized s rule scratch ≡ true
    → sizes_agree s ≡ true
sized_agree s rule scratch e = by (brings_secret rule.secret) e
  where
    by : (b : Bool) → (if b then (sizes_agree s && is_full_scratch scratch) else sizes_agree s)
        ≡ true → sizes_agree s ≡ true
    by true e = (and_parts (sizes_agree s) (is_full_scratch scratch) e).0
    by false e = e

-- what is told of what is decided on at an object is told where that is found, and a refusal to
-- find it is the answer
pub told_within : {A B : Type 0} (tell : A → Told) (r : Result B StoreRefusal)
    (decide : B → Result A StoreRefusal)
    → told_as tell (and_then r decide) ≡ and_then r (λ t. and_then (decide t) (λ a. Ok (tell a)))
told_within tell (Err e) decide = refl
told_within {A} tell (Ok t) decide = by (decide t)
  where
    by : (d : Result A StoreRefusal) → told_as tell d ≡ and_then d (λ a. Ok (tell a))
    by (Ok a) = refl
    by (Err e) = refl

-- what is decided on at the object makes the change, and a refusal to decide on it makes none
pub decided_on : {A B : Type 0} (r : Result Target StoreRefusal)
    (decide : Target → Result A StoreRefusal) (make : A → B)
    → and_then (and_then r decide) (λ a. Ok (make a))
    ≡ and_then r (λ t. and_then (decide t) (λ a. Ok (make a)))
decided_on (Err e) decide make = refl
decided_on (Ok t) decide make = refl

module _ (s : State) (c : Capability) where
  pub read_reply : told_as (λ f. the_bytes (bytes_in s.memory f))
      (and_then (admitted_by s (plain to_read) c) file_in) ≡ reply_to s c read
  read_reply =
      told_within (λ f. the_bytes (bytes_in s.memory f)) (admitted_by s (plain to_read) c) file_in
      ∙ sym (parted s (plain to_read) c (told_at s c.rights.bits read))

  pub size_reply : told_as (λ f. the_size f.length)
      (and_then (admitted_by s (plain to_size) c) file_in) ≡ reply_to s c size
  size_reply = told_within (λ f. the_size f.length) (admitted_by s (plain to_size) c) file_in
      ∙ sym (parted s (plain to_size) c (told_at s c.rights.bits size))

  pub row_reply : (n : ℕ) → told_as (λ at. the_name (name_at s.memory at))
      (and_then (admitted_by s (plain to_see) c) (wanted_row s.memory (nth_place n) 0))
      ≡ reply_to s c (row n)
  row_reply n =
      told_within (λ at. the_name (name_at s.memory at)) (admitted_by s (plain to_see) c)
      (wanted_row s.memory (nth_place n) 0)
      ∙ sym (parted s (plain to_see) c (told_at s c.rights.bits (row n)))

  pub name_reply : (o : ℕ)
      → told_as (λ at. the_name (name_at s.memory at))
      (and_then (admitted_by s (plain to_see) c) (wanted_row s.memory (place_of_object o) 0))
      ≡ reply_to s c (name o)
  name_reply o =
      told_within (λ at. the_name (name_at s.memory at)) (admitted_by s (plain to_see) c)
      (wanted_row s.memory (place_of_object o) 0)
      ∙ sym (parted s (plain to_see) c (told_at s c.rights.bits (name o)))

  pub enter_outcome : (bs : List ℕ) (entry : Capability) (masks : Masks) (rule : Rule)
      → rule ≡ rule_of (update (enter bs entry masks))
      → outcome_by s [] (and_then (and_then (admitted_by s rule c) (room_in s bs entry))
      (λ d. Ok (with_row s (row_of bs entry masks) d)))
      ≡ outcome_of s c (enter bs entry masks) []
  enter_outcome bs entry masks rule e =
      let u : Update = enter bs entry masks in
      ap (λ rule. outcome_by s []
      (and_then (and_then (admitted_by s rule c) (room_in s bs entry))
      (λ d. Ok (with_row s (row_of bs entry masks) d)))) e
      ∙ ap (outcome_by s []) (decided_on (admitted_by s (rule_of (update u)) c) (room_in s bs entry)
      (with_row s (row_of bs entry masks))
      ∙ sym (parted s (rule_of (update u)) c (change_at s u)))

  pub remove_outcome : (bs : List ℕ) (rule : Rule) → rule ≡ rule_of (update (remove bs))
      → outcome_by s [] (and_then
      (and_then (admitted_by s rule c) (wanted_row s.memory (place_of_name bs) 0))
      (λ at. Ok (without_row s at)))
      ≡ outcome_of s c (remove bs) []
  remove_outcome bs rule e =
      let u : Update = remove bs in
      ap (λ rule. outcome_by s []
      (and_then (and_then (admitted_by s rule c) (wanted_row s.memory (place_of_name bs) 0))
      (λ at. Ok (without_row s at)))) e
      ∙ ap (outcome_by s []) (decided_on (admitted_by s (rule_of (update u)) c)
      (wanted_row s.memory (place_of_name bs) 0) (without_row s)
      ∙ sym (parted s (rule_of (update u)) c (change_at s u)))

  pub destroy_outcome : outcome_by s [] (attempt_of s c destroy) ≡ outcome_of s c destroy []
  destroy_outcome =
      ap (outcome_by s []) (sym (parted s (rule_of (update destroy)) c (change_at s destroy)))

-- the same outcome with another scratch
pub with_scratch : (s : State) (r : Result Change StoreRefusal) (answer : Result Told StoreRefusal)
    (s' : State) (scratch : List ℕ)
    → outcome answer s' [] ≡ outcome_by s [] r → outcome answer s' scratch ≡ outcome_by s scratch r
with_scratch s (Ok change) answer s' scratch e = ap (λ o. outcome o.answer o.after scratch) e
with_scratch s (Err r) answer s' scratch e = ap (λ o. outcome o.answer o.after scratch) e

-- an update whose sizes are right and that brings a secret, once its scratch is wiped
pub finished : (s : State) (c : Capability) (u : Update) (answer : Result Told StoreRefusal)
    (s' : State) (scratch left : List ℕ)
    → brings_secret (rule_of (update u)).secret ≡ true
    → sizes_agree s && is_full_scratch scratch ≡ true → left ≡ replicate (length scratch) 0
    → outcome answer s' [] ≡ outcome_by s [] (attempt_of s c u)
    → outcome answer s' left ≡ outcome_of s c u scratch
finished s c u answer s' scratch left brings fit wiped e =
    let rule : Rule = rule_of (update u) in
    let zeros : List ℕ = replicate (length scratch) 0 in
    let agree : sizes_agree s ≡ true =
    (and_parts (sizes_agree s) (is_full_scratch scratch) fit).0 in
    let sized : is_sized s rule scratch ≡ true =
    ap (λ b. if b then (sizes_agree s && is_full_scratch scratch) else sizes_agree s) brings
    ∙ fit in
    ap (outcome answer s') wiped ∙ with_scratch s (attempt_of s c u) answer s' zeros e
    ∙ ap (outcome_by s zeros) (sym (parted s rule c (change_at s u)))
    ∙ ap (λ z. outcome_by s zeros (result_of s z rule c (change_at s u))) agree
    ∙ sym (ap (λ z. outcome_by s (if brings_secret rule.secret && z then zeros else scratch)
    (result_of s z rule c (change_at s u))) sized
    ∙ ap (λ b. outcome_by s (if b && true then zeros else scratch)
    (result_of s true rule c (change_at s u))) brings)

-- a refusal leaves the state as it was
pub refused_unchanged : {A : Type 0} (tell : A → Told) (result : Result A StoreRefusal)
    (s s' : State) (scratch left : List ℕ) (r : Result Change StoreRefusal)
    → outcome (told_as tell result) s' left ≡ outcome_by s scratch r → IfErr result (λ _. s' ≡ s)
refused_unchanged tell (Ok a) s s' scratch left r e = search rules
refused_unchanged tell (Err refusal) s s' scratch left (Ok change) e =
    absurd (let f = ap (λ (o : Outcome). o.answer) e in cc)
refused_unchanged tell (Err refusal) s s' scratch left (Err other) e =
    ap (λ (o : Outcome). o.after) e
