-- What ties the history of a store to its state: the secret of each live object is that of the
-- grant that stands for it.
use Rattle.std.proofs.Common.{◌≡◌, ℕ, ◌^◌, ◌<◌, ◌≤◌, Bool, true, false, cond, eqb, ◌⊎◌, List, [], ◌∷◌, ◌++◌, Some, None, Ok, Err, Option, Result, sym, refl, ap, ◌∙◌, subst, inl, inr, ⊎_elim, arith}
use Rattle.std.specs.Option.{option_map}
use Rattle.std.proofs.lemmas.Bool.{cases_eq, eq-eqb, eqb-true, ne_eqb, cond-true, cond-false}
use Rattle.family.specs.Commuting.{Family}
use Rattle.holder.specs.Checks.{object_of}
use Rattle.holder.specs.declared.capability.Capability.{Capability}
use Rattle.holder.specs.declared.capability.Port.{Port}
use Rattle.secret.specs.Fitness.{is_fit}
use Rattle.secret.specs.Owner.{owner_capability}
use Rattle.secret.specs.declared.secret.Secret.{Secret}
use Rattle.memory.specs.declared.row.Row.{Row}
use Rattle.rows.specs.Search.{place_of_name}
use Rattle.rows.specs.Changes.{row_of}
use Rattle.admission.specs.Objects.{object_number}
use Rattle.store.specs.Outcomes.{Change, outcome_by}
use Rattle.store.specs.Kept.{grant_of}
use Rattle.store.specs.Requests.{Query, Update, create_file, create_directory, enter, remove, destroy, revoke, Ask, query, update, Told}
use Rattle.runs.specs.Views.{View, the_store, a_file, a_directory, Effect, changed_object, with_secret, with_changed_rows, without_place, view_after, view_at}
use Rattle.store.specs.Serve.{outcome_of, reply_to, scratch_after}
use Rattle.store.specs.Order.{IsInOrder}
use Rattle.store.specs.declared.error.StoreRefusal.{StoreRefusal}
use Rattle.refusal.proofs.ChainFacts.{never_ok}
use Rattle.runs.proofs.Effects.{effect_of}
use Rattle.runs.proofs.SoundKept.{stays_in_order}
use Rattle.runs.specs.Grants.{Grant, Consequence, grants, ends, neither, grant_told, consequence, consequence_of, IsGranted, object_granted, grant_after, standing_grant}
use Rattle.runs.specs.History.{Call, call_with, Event, state_after, history, answer_in, outcome_in}
use Rattle.store.specs.State.{State}
use Rattle.runs.proofs.SecretFacts.{secret_in, secret_seen}
use Rattle.runs.proofs.TellFacts.{OwnerTold, Tells, answer_right, object_told}
use Rattle.runs.proofs.Entered.{decision}
use Rattle.store.specs.Rules.{rule_of}

-- a grant is the owner capability of its object, from a fit secret
pub record GoodGrant (F : Family) (port : Port) (g : Grant) : Type 0 where
  pub object : ℕ
  pub narrow : object < 2 ^ 24
  pub owner : g.capability ≡ owner_capability port (object_of object) g.secret.value
  pub fit : is_fit F g.secret.value ≡ true

abbrev pub secret_granted : Option Grant → Option Secret
secret_granted o = option_map (λ g. g.secret) o

pub record Tied (F : Family) (port : Port) (first : Grant) (es : List Event) (s : State) : Type 0
  where
    pub family : s.kept.family ≡ F
    pub port_same : s.kept.port ≡ port
    pub few_files : s.kept.files ≤ 256
    pub few_directories : s.kept.directories ≤ 64
    pub order : IsInOrder s
    pub secrets : (o : ℕ) → secret_seen s o ≡ secret_granted (standing_grant first es o)
    pub good : (g : Grant) → IsGranted first es g → GoodGrant F port g

-- one object changes, and the grant that stands for it
changed_step : (seen' seen : ℕ → Option Secret) (x : ℕ) (new : Option Grant)
    (old : ℕ → Option Grant) → seen' x ≡ secret_granted new
    → ((o : ℕ) → (o ≡ x → ⊥) → seen' o ≡ seen o) → ((o : ℕ) → seen o ≡ secret_granted (old o))
    → (o : ℕ) → seen' o ≡ secret_granted (cond (eqb o x) new (old o))
changed_step seen' seen x new old there elsewhere before o = elim (cases_eq o x) [
  | inl e ↦ ap seen' e ∙ there
      ∙ ap secret_granted (sym (cond-true (eqb o x) new (old o) (eq-eqb o x e)))
  | inr d ↦ elsewhere o d ∙ before o
      ∙ ap secret_granted (sym (cond-false (eqb o x) new (old o) (ne_eqb o x d)))
]

-- a refusal leaves the state as it was
pub refusal_leaves : (s : State) (scratch : List ℕ) (r : Result Change StoreRefusal)
    (e : StoreRefusal) → (outcome_by s scratch r).answer ≡ Err e
    → (outcome_by s scratch r).after ≡ s
refusal_leaves s scratch (Ok change) e h = absurd (never_ok e change.told (sym h))
refusal_leaves s scratch (Err x) e h = refl

-- an event of no consequence grants nothing
idle_grants_nothing : (g : Grant) {P : Type 0} → neither ≡ grants g → P
idle_grants_nothing g e = absurd (cc)

ends_grants_nothing : (objects : ℕ → Bool) (g : Grant) {P : Type 0} → ends objects ≡ grants g → P
ends_grants_nothing objects g e = absurd (cc)

module _ (F : Family) (port : Port) (first : Grant) (es : List Event) (s : State)
    (tied : Tied F port first es s) where
  -- an event of no consequence that left the state as it was: any query, and any refusal
  pub idle_step : (e : Event) → consequence_of e ≡ neither → Tied F port first (e ∷ es) s
  idle_step e none = record {
    family = tied.family;
    port_same = tied.port_same;
    few_files = tied.few_files;
    few_directories = tied.few_directories;
    order = tied.order;
    secrets =
        λ o. tied.secrets o ∙ ap (λ x. secret_granted (grant_after x o (standing_grant first es o)))
        (sym none);
    good = λ g h. ⊎_elim (λ is. idle_grants_nothing g (sym none ∙ is)) (tied.good g) h;
  }

module _ (F : Family) (port : Port) (first : Grant) (es : List Event) (s : State)
    (tied : Tied F port first es s) (c : Capability) (x : List ℕ) where
  abbrev seen : ℕ → Option Secret
  seen = secret_seen s

  abbrev seen_after : Update → ℕ → Option Secret
  seen_after u = secret_seen (outcome_of s c u x).after

  -- what an answer to an update does to secrets and grants
  record Upheld (u : Update) (told : Told) : Type 0 where
    secrets : (q : ℕ) → seen_after u q
        ≡ secret_granted (grant_after (consequence c (update u) told) q (standing_grant first es q))
    good : (g : Grant) → consequence c (update u) told ≡ grants g → GoodGrant F port g

  -- the grant of an owner capability
  granted_upheld : (u : Update) (told : Told) (secret : Secret) (object : ℕ)
      → OwnerTold s object secret told
      → consequence c (update u) told ≡ grant_told secret told
      → Effect s (call_with c (update u) x) told
      → option_map secret_in (view_after (update u) (view_at s object)) ≡ Some secret
      → Upheld u told
  granted_upheld u told secret object owner same effect becoming =
      let g : Grant = record { capability = grant_of s.kept object secret; secret = secret } in
      let cons : consequence c (update u) told ≡ grants g =
      same ∙ ap (λ t. grant_told secret t) owner.told_is in
      let number : object_granted g ≡ object = object_told s.kept object secret owner.narrow in
      let changed : changed_object c told ≡ Some object =
      ap (changed_object c) owner.told_is ∙ ap Some number in
      record {
        secrets = λ q.
            changed_step (seen_after u) seen (object_granted g) (Some g) (standing_grant first es)
            (ap (seen_after u) number ∙ ap (option_map secret_in) (effect.there object changed)
            ∙ becoming)
            (λ q d. ap (option_map secret_in)
            (effect.elsewhere q (λ e. d (let same : q ≡ object_granted g = cc in same))))
            tied.secrets q
            ∙ ap (λ x. secret_granted (grant_after x q (standing_grant first es q))) (sym cons);
        good = λ g' e. subst (GoodGrant F port) (let same : g ≡ g' = cc in same) (record {
          object = object;
          narrow = owner.narrow;
          owner = ap (λ p. owner_capability p (object_of object) secret.value) tied.port_same;
          fit = ap (λ x. is_fit x secret.value) (sym tied.family) ∙ owner.fit;
        });
      }

  -- a directory with other rows has the same secret
  same_secret : (change : List Row → List Row) (x : Option View)
      → option_map secret_in (option_map (with_changed_rows change) x) ≡ option_map secret_in x
  same_secret change None = refl
  same_secret change (Some (the_store secret)) = refl
  same_secret change (Some (a_file secret bs)) = refl
  same_secret change (Some (a_directory secret rows)) = refl

  -- a request that changes the rows of the object presented
  relisted_upheld : (u : Update) (told : Told) → consequence c (update u) told ≡ neither
      → changed_object c told ≡ Some (object_number c)
      → (change : List Row → List Row)
      → ((old : Option View) → view_after (update u) old
      ≡ option_map (with_changed_rows change) old)
      → Effect s (call_with c (update u) x) told → Upheld u told
  relisted_upheld u told cons changed change becoming effect = record {
    secrets =
        λ q. unchanged q ∙ tied.secrets q
        ∙ ap (λ x. secret_granted (grant_after x q (standing_grant first es q))) (sym cons);
    good = λ g e. idle_grants_nothing g (sym cons ∙ e);
  }
    where
      unchanged : (q : ℕ) → seen_after u q ≡ seen q
      unchanged q = elim (cases_eq q (object_number c)) [
        | inl e ↦
            ap (seen_after u) e
            ∙ ap (option_map secret_in)
            (effect.there (object_number c) changed ∙ becoming (view_at s (object_number c)))
            ∙ same_secret change (view_at s (object_number c)) ∙ ap seen (sym e)
        | inr d ↦ ap (option_map secret_in)
            (effect.elsewhere q (λ e. d (let same : q ≡ object_number c = cc in same)))
      ]

  -- a request that ends the object presented
  ended_upheld : (u : Update) (told : Told)
      → consequence c (update u) told ≡ ends (λ q. eqb q (object_number c))
      → changed_object c told ≡ Some (object_number c)
      → ((old : Option View) → view_after (update u) old ≡ None)
      → Effect s (call_with c (update u) x) told → Upheld u told
  ended_upheld u told cons changed none effect = record {
    secrets = λ q.
        changed_step (seen_after u) seen (object_number c) None (standing_grant first es)
        (ap (option_map secret_in)
        (effect.there (object_number c) changed ∙ none (view_at s (object_number c))))
        (λ q d. ap (option_map secret_in)
        (effect.elsewhere q (λ e. d (let same : q ≡ object_number c = cc in same))))
        tied.secrets q
        ∙ ap (λ x. secret_granted (grant_after x q (standing_grant first es q))) (sym cons);
    good = λ g e. ends_grants_nothing (λ q. eqb q (object_number c)) g (sym cons ∙ e);
  }

  -- an object with a secret still has one when it gets another
  secret_anew : (secret old : Secret) (x : Option View) → option_map secret_in x ≡ Some old
      → option_map secret_in (option_map (with_secret secret) x) ≡ Some secret
  secret_anew secret old None e = absurd (cc)
  secret_anew secret old (Some (the_store x)) e = refl
  secret_anew secret old (Some (a_file x bs)) e = refl
  secret_anew secret old (Some (a_directory x rows)) e = refl

  answer_upheld : (u : Update) (told : Told) → Tells s c u told
      → Effect s (call_with c (update u) x) told → Upheld u told
  answer_upheld (create_file bs secret) told tells effect =
      granted_upheld (create_file bs secret) told secret tells.0 tells.1 refl effect refl
  answer_upheld (create_directory secret) told tells effect =
      granted_upheld (create_directory secret) told secret tells.0 tells.1 refl effect refl
  answer_upheld (enter bs entry masks) told tells effect =
      relisted_upheld (enter bs entry masks) told refl (ap (changed_object c) tells.0)
      (λ rows. rows ++ row_of bs entry masks ∷ []) (λ old. refl) effect
  answer_upheld (remove bs) told tells effect =
      relisted_upheld (remove bs) told refl (ap (changed_object c) tells)
      (λ rows. without_place (place_of_name bs rows) rows) (λ old. refl) effect
  answer_upheld destroy told tells effect =
      ended_upheld destroy told refl (ap (changed_object c) tells) (λ old. refl) effect
  answer_upheld (revoke secret) told tells effect =
      granted_upheld (revoke secret) told secret (object_number c) tells.1 refl effect
      (secret_anew secret tells.0.0 (view_at s (object_number c)) tells.0.1)

  abbrev event : Ask → Result Told StoreRefusal → Event
  event ask answer = record { call = call_with c ask x; answer = answer }

  -- a query is of no consequence, answered or refused
  query_idle : (q : Query) (answer : Result Told StoreRefusal)
      → consequence_of (event (query q) answer) ≡ neither
  query_idle q (Ok told) = refl
  query_idle q (Err e) = refl

  -- an update with its answer
  updated : (u : Update) (answer : Result Told StoreRefusal) → (outcome_of s c u x).answer ≡ answer
      → Tied F port first (event (update u) answer ∷ es) ((outcome_of s c u x).after)
  updated u (Err e) h =
      subst (Tied F port first (event (update u) (Err e) ∷ es))
      (sym (refusal_leaves s (scratch_after s (rule_of (update u)) x) (decision s c u x) e h))
      (idle_step F port first es s tied (event (update u) (Err e)) refl)
  updated u (Ok told) h =
      let right = answer_right s c tied.few_files tied.few_directories u x told h in
      let upheld =
      answer_upheld u told right.0
      (effect_of s (call_with c (update u) x) tied.few_files tied.few_directories told h) in
      record {
        family = right.1.family ∙ tied.family;
        port_same = right.1.port ∙ tied.port_same;
        few_files = subst (λ x. x ≤ 256) (sym right.1.files) tied.few_files;
        few_directories = subst (λ x. x ≤ 64) (sym right.1.directories) tied.few_directories;
        order = stays_in_order s (call_with c (update u) x) tied.order;
        secrets = upheld.secrets;
        good = λ g h. ⊎_elim (upheld.good g) (tied.good g) h;
      }

  -- one request more
  pub tied_step : (ask : Ask)
      → Tied F port first (event ask (answer_in s (call_with c ask x)) ∷ es)
      ((outcome_in s (call_with c ask x)).after)
  tied_step (query q) =
      idle_step F port first es s tied (event (query q) (reply_to s c q))
      (query_idle q (reply_to s c q))
  tied_step (update u) = updated u (outcome_of s c u x).answer refl

-- every run from a tied beginning is tied
pub tied_run : (F : Family) (port : Port) (first : Grant) (start : State)
    → Tied F port first [] start
    → (calls : List Call) → Tied F port first (history start calls) (state_after start calls)
unfolding state_after history
tied_run F port first start tied [] = tied
tied_run F port first start tied (r ∷ calls) =
    tied_step F port first (history start calls) (state_after start calls)
    (tied_run F port first start tied calls) r.presented r.scratch r.ask

-- a grant that stands after a consequence came then, for its object, or stood before
overturned_some : (x : Consequence) (o : ℕ) (old : Option Grant) (g : Grant)
    → grant_after x o old ≡ Some g → ((x ≡ grants g) × (object_granted g ≡ o)) ⊎ (old ≡ Some g)
overturned_some (grants h) o old g e = by (eqb o (object_granted h)) refl e
  where
    by : (b : Bool) → eqb o (object_granted h) ≡ b → cond b (Some h) old ≡ Some g
        → ((grants h ≡ grants g) × (object_granted g ≡ o)) ⊎ (old ≡ Some g)
    by true q e = let same : h ≡ g = cc in
        inl (ap grants same, ap object_granted (sym same) ∙ sym (eqb-true o (object_granted h) q))
    by false q e = inr e
overturned_some (ends objects) o old g e = by (objects o) e
  where
    by : (b : Bool) → cond b None old ≡ Some g
        → ((ends objects ≡ grants g) × (object_granted g ≡ o)) ⊎ (old ≡ Some g)
    by true e = absurd (let z : ◌≡◌ {A = ℕ} 0 1 = cc in omega arith)
    by false e = inr e
overturned_some neither o old g e = inr e

-- a grant that stands was granted, for its object
pub standing_granted : (first : Grant) (es : List Event) (o : ℕ) (g : Grant)
    → standing_grant first es o ≡ Some g → IsGranted first es g × (object_granted g ≡ o)
standing_granted first [] o g e = elim (overturned_some (grants first) o None g e) [
  | inl now ↦ (let same : g ≡ first = (let q = now.0 in cc) in same, now.1)
  | inr never ↦ absurd (let z : ◌≡◌ {A = ℕ} 0 1 = cc in omega arith)
]
standing_granted first (e ∷ es) o g h =
    elim (overturned_some (consequence_of e) o (standing_grant first es o) g h) [
      | inl now ↦ (inl now.0, now.1)
      | inr before ↦ let was = standing_granted first es o g before in (inr was.0, was.1)
    ]
