-- The law of runs, from what ties history and state.
use Rattle.std.proofs.Common.{◌≡◌, Bool, ℕ, ◌-◌, ◌<◌, eqb, List, [], is_err, Some, None, Ok, Option, Result, sym, refl, ap, ◌∙◌, subst, arith}
use Rattle.std.proofs.lemmas.Bool.{eq-eqb, eqb-true}
use Rattle.refusal.specs.Chains.{and_then}
use Rattle.family.specs.Commuting.{Family, IsCommuting}
use Rattle.family.specs.Fit.{IsFit}
use Rattle.family.specs.Rights.{has_right, lacks_right}
use Rattle.family.specs.Thin.{thin}
use Rattle.family.proofs.ThinFacts.{thin_like}
use Rattle.holder.specs.Checks.{object_of}
use Rattle.holder.specs.Dropping.{check_number, thin_to}
use Rattle.holder.specs.Laws.{IsGenuine}
use Rattle.holder.specs.Layout.{capability_bytes}
use Rattle.holder.specs.declared.capability.Capability.{Capability}
use Rattle.holder.specs.declared.object.Object.{Object}
use Rattle.holder.specs.declared.capability.Port.{Port}
use Rattle.holder.proofs.BitFacts.{has_not}
use Rattle.secret.specs.Accepted.{is_accepted}
use Rattle.secret.specs.declared.secret.Secret.{Secret}
use Rattle.secret.proofs.AcceptFacts.{accepted_plain}
use Rattle.secret.proofs.FitnessFacts.{decides_fit}
use Rattle.admission.specs.Admission.{authorized_target}
use Rattle.admission.specs.Objects.{target_at, secret_of, object_number}
use Rattle.admission.specs.declared.target.Target.{Target}
use Rattle.store.specs.Outcomes.{outcome_by}
use Rattle.rows.specs.Paths.{names_in}
use Rattle.store.specs.LookUp.{lookup_at, walk_end_at}
use Rattle.store.specs.Requests.{Query, read, size, look_up, walk, row, name, Ask, query, update, Told, found}
use Rattle.store.specs.Rules.{rule_of}
use Rattle.store.specs.Serve.{told_at, change_at, outcome_of, scratch_after}
use Rattle.store.specs.State.{State}
use Rattle.store.specs.declared.rule.Rule.{Rule}
use Rattle.store.specs.Sizes.{sizes_agree}
use Rattle.store.specs.declared.error.StoreRefusal.{StoreRefusal}
use Rattle.refusal.proofs.ChainFacts.{same_ok, and_then_ok}
use Rattle.runs.specs.Acceptance.{IsAccepted}
use Rattle.runs.specs.Descent.{IsDescendant}
use Rattle.runs.specs.Grants.{Grant, IsGranted, Stands, object_granted, standing_grant}
use Rattle.runs.specs.History.{Call, Event, state_after, history, answer_in, call_with}
use Rattle.runs.specs.Law.{SameAnswer, AreAlike, FoundAlike, FewerRights, AcceptanceShows, EqualBytes, AcceptedExactly, MoreRights, LawOfRuns}
use Rattle.runs.proofs.Invariant.{Tied, GoodGrant, secret_granted, standing_granted, tied_run}
use Rattle.runs.proofs.SecretFacts.{Passes, judged_passes, passes_judged, is_ok, secret_located, secret_target}
use Rattle.runs.proofs.Looks.{LawfulStore}
use Rattle.runs.proofs.LooksRun.{looks_run}
use Rattle.runs.proofs.Rights.{more_permitted}
use Rattle.runs.proofs.Shapes.{Looks, Shape, same_shape, descends_shape}
use Rattle.runs.proofs.Traced.{RowsBrought}
use Rattle.runs.proofs.Wider.{Thinner, looked_wider, walked_on_wider}
use Rattle.runs.proofs.TellFacts.{answered}
use Rattle.runs.proofs.Lateness.{judged_in}
use Rattle.runs.proofs.Verdicts.{full_shows, reaching_shows}
use Rattle.store.proofs.OrderFacts.{Executed, executed, executes}
use Rattle.runs.proofs.Entered.{decision}
use Rattle.store.specs.Order.{is_sized, result_of}

-- the grant of a secret that is granted
grant_of_lem : (o : Option Grant) (s : Secret) → secret_granted o ≡ Some s
    → (g : Grant) × ((o ≡ Some g) × (g.secret ≡ s))
grant_of_lem None s e = absurd (let z : ◌≡◌ {A = ℕ} 0 1 = cc in omega arith)
grant_of_lem (Some g) s e = (g, (refl, cc))

module _ (F : Family) (family : IsCommuting F) (port : Port) (first : Grant) (es : List Event)
    (s : State) (tied : Tied F port first es s) (looks : Looks F es) where
  -- a standing grant has a secret below n
  standing_fit : (o : ℕ) (g : Grant) → standing_grant first es o ≡ Some g → IsFit F g.secret.value
  standing_fit o g e =
      (decides_fit F g.secret.value).0 (tied.good g (standing_granted first es o g e).0).fit

  -- the store is a lawful one
  lawful : LawfulStore s.kept
  lawful =
      let own = grant_of_lem (standing_grant first es 0) s.kept.own (sym (tied.secrets 0)) in
      record {
        family = subst IsCommuting (sym tied.family) family;
        own_below =
            subst (λ x. s.kept.own.value < x.modulus) (sym tied.family)
            (subst (λ x. x.value < F.modulus) own.1.1 (standing_fit 0 own.0 own.1.0).below);
      }

  shows : AcceptanceShows s
  shows = record {
    one_verdict =
        λ c a b v w x y. reaching_shows s tied.order lawful c a v x
        ∙ sym (reaching_shows s tied.order lawful c b w y);
    some_verdict =
        λ c. (query read, (full_shows s tied.order lawful c (query read) [] refl tt refl).0);
  }

  -- accepted is passing the judgement
  accepted_passes : (c : Capability) → IsAccepted s c → (t : Target) × Passes s c t
  accepted_passes c accepts =
      let shown = full_shows s tied.order lawful c (query read) [] refl tt refl in
      let ok = is_ok (judged_in s c) (sym shown.1 ∙ accepts (query read) [] shown.0) in
      (ok.0, judged_passes s c ok.0 ok.1)

  passes_accepted : (c : Capability) (t : Target) → Passes s c t → IsAccepted s c
  passes_accepted c t p =
      λ ask x reaches. reaching_shows s tied.order lawful c ask x reaches
      ∙ ap is_err (passes_judged s c t p)

  -- accepting a check by a secret below n is its being genuine
  accepted_genuine : (c : Capability) (v : ℕ) → v < F.modulus
      → is_accepted s.kept.family v c.rights.bits (check_number c)
      ≡ eqb (check_number c) (thin F.function v (lacks_right c.rights.bits))
  accepted_genuine c v h =
      ap (λ x. is_accepted x v c.rights.bits (check_number c)) tied.family
      ∙ accepted_plain F family v c.rights.bits (check_number c) h

  pub only_when : (c : Capability) → IsAccepted s c
      → (g : Grant) × ((standing_grant first es (object_number c) ≡ Some g)
      × IsGenuine F.function g.secret.value c)
  only_when c accepts =
      let p = accepted_passes c accepts in
      let t : Target = p.0 in
      let granted =
      grant_of_lem (standing_grant first es (object_number c)) (secret_of s.kept.own t)
      (sym (tied.secrets (object_number c)) ∙ secret_located s (object_number c) t p.1.object) in
      let g : Grant = granted.0 in
      let fit = standing_fit (object_number c) g granted.1.0 in
      let accept = sym (accepted_genuine c g.secret.value fit.below)
      ∙ ap (λ x. is_accepted s.kept.family x.value c.rights.bits (check_number c)) granted.1.1
      ∙ p.1.accepts in (
        g,
        (
          granted.1.0,
          eqb-true (check_number c)
              (thin F.function g.secret.value (lacks_right c.rights.bits)) accept,
        ),
      )

  pub when : (c : Capability) → c.port.bytes ≡ s.kept.port.bytes → (g : Grant)
      → standing_grant first es (object_number c) ≡ Some g → IsGenuine F.function g.secret.value c
      → IsAccepted s c
  when c ports g stands genuine =
      let fit = standing_fit (object_number c) g stands in
      let found =
      secret_target s (object_number c) g.secret
      (tied.secrets (object_number c) ∙ ap secret_granted stands) in
      passes_accepted c found.0 (record {
        port = ports;
        object = found.1.0;
        accepts =
            ap (λ x. is_accepted s.kept.family x.value c.rights.bits (check_number c)) found.1.1
            ∙ accepted_genuine c g.secret.value fit.below
            ∙ eq-eqb (check_number c) (thin F.function g.secret.value (lacks_right c.rights.bits))
            genuine;
      })

  -- the missing rights of a byte, as the byte of the others
  missing_others : (v r : ℕ) → r < 256
      → thin F.function v (lacks_right r) ≡ thin F.function v (has_right (255 - r))
  missing_others v r h =
      thin_like F.function (lacks_right r) (has_right (255 - r)) v (λ k q. sym (has_not r k h q))

  one_rights_byte : (c d : Capability) → IsAccepted s c → IsAccepted s d
      → object_number c ≡ object_number d → check_number c ≡ check_number d
      → c.rights.bits < 256 → d.rights.bits < 256 → c.rights.bits ≡ d.rights.bits
  one_rights_byte c d x y objects checks p q =
      let a = only_when c x in
      let b = only_when d y in
      let v : ℕ = a.0.secret.value in
      let same : b.0 ≡ a.0 =
      (let u = a.1.0 in let w = ap (standing_grant first es) objects ∙ b.1.0 in cc) in
      let fit = standing_fit (object_number c) a.0 a.1.0 in
      let thins : thin F.function v (has_right (255 - c.rights.bits))
      ≡ thin F.function v (has_right (255 - d.rights.bits)) =
      sym (missing_others v c.rights.bits p) ∙ sym a.1.1 ∙ checks ∙ b.1.1
      ∙ ap (λ g. thin F.function g.secret.value (lacks_right d.rights.bits)) same
      ∙ missing_others v d.rights.bits q in
      omega (
        arith,
        fit.apart (255 - c.rights.bits) (255 - d.rights.bits) (omega arith)
            (omega arith) thins,
      )

  -- the shape of a grant's descendants
  grant_shape : (g : Grant) (good : GoodGrant F port g) (c : Capability)
      → IsDescendant F es g.capability c → Shape F.function g.secret.value g.capability c
  grant_shape g good c from =
      let fit = (decides_fit F g.secret.value).0 good.fit in
      let object : Object = object_of good.object in
      subst (λ x. Shape F.function g.secret.value x c) (sym good.owner)
      (descends_shape F family port object g.secret.value fit.below es looks c
      (subst (λ x. IsDescendant F es x c) good.owner from))

  same_sixteen_bytes : (g : Grant) → IsGranted first es g → (c d : Capability)
      → IsDescendant F es g.capability c → IsDescendant F es g.capability d
      → c.rights.bits ≡ d.rights.bits → capability_bytes c ≡ capability_bytes d
  same_sixteen_bytes g was c d x y rights =
      let good = tied.good g was in
      same_shape F.function g.secret.value g.capability c d (grant_shape g good c x)
      (grant_shape g good d y) rights

  while_standing : (g : Grant) → Stands first es g → (c : Capability)
      → IsDescendant F es g.capability c → IsAccepted s c
  while_standing g stands c from =
      let good = tied.good g (standing_granted first es (object_granted g) g stands).0 in
      let shape = grant_shape g good c from in
      when c (ap (λ p. p.bytes) (shape.port ∙ ap (λ x. x.port) good.owner ∙ sym tied.port_same)) g
      (ap (λ x. standing_grant first es x.value) shape.object ∙ stands) shape.genuine

  found_alike : (x y : Capability) → Thinner s tied.order lawful x y
      → FoundAlike F (found x) (found y)
  found_alike x y w = record {
    first = x;
    second = y;
    told_first = refl;
    told_second = refl;
    thins = ap (λ z. thin_to z y x.rights.bits) (sym tied.family) ∙ w.thins;
  }

  -- what a query is told under fewer rights it is told under more: the same, but that look-ups and
  -- walks may find more rights
  record ToldAlike (q : Query) (d : Capability) (t : Target) (told : Told) : Type 0 where
    more : Told
    tells : told_at s d.rights.bits q t ≡ Ok more
    alike : AreAlike F (query q) told more

  found_more : (q : Query) (d : Capability) (t : Target) (told : Told)
      (decide : ℕ → Result Capability StoreRefusal) (rights : ℕ)
      → ((r : ℕ) → told_at s r q t ≡ and_then (decide r) (λ x. Ok (found x)))
      → ((told more : Told) → FoundAlike F told more → AreAlike F (query q) told more)
      → ((x : Capability) → decide rights ≡ Ok x
      → (y : Capability) × ((decide d.rights.bits ≡ Ok y) × Thinner s tied.order lawful x y))
      → told_at s rights q t ≡ Ok told → ToldAlike q d t told
  found_more q d t told decide rights is alike wider e =
      let made = and_then_ok (decide rights) (λ x. Ok (found x)) told (sym (is rights) ∙ e) in
      let more = wider made.0 made.1.0 in
      record {
        more = found more.0;
        tells = is d.rights.bits ∙ ap (λ r. and_then r (λ x. Ok (found x))) more.1.0;
        alike =
            subst (λ x. AreAlike F (query q) x (found more.0)) (same_ok made.1.1)
            (alike (found made.0) (found more.0) (found_alike made.0 more.0 more.1.1));
      }

  told_alike : (q : Query) (c d : Capability) (t : Target) (told : Told) → FewerRights c d
      → told_at s c.rights.bits q t ≡ Ok told → ToldAlike q d t told
  told_alike read c d t told fewer e = record { more = told; tells = e; alike = refl }
  told_alike size c d t told fewer e = record { more = told; tells = e; alike = refl }
  told_alike (look_up bs) c d t told fewer e =
      found_more (look_up bs) d t told (λ rights. lookup_at s rights bs 0 t) c.rights.bits
      (λ rights. refl) (λ told more h. h)
      (λ x q. looked_wider s tied.order lawful c d bs 0 t x fewer q) e
  told_alike (walk path) c d t told fewer e =
      found_more (walk path) d t told (λ rights. walk_end_at s rights (names_in path) 1 t)
      c.rights.bits
      (λ rights. refl) (λ told more h. h)
      (λ x q. walked_on_wider s tied.order lawful (names_in path) c d 1 t x fewer q) e
  told_alike (row i) c d t told fewer e = record { more = told; tells = e; alike = refl }
  told_alike (name o) c d t told fewer e = record { more = told; tells = e; alike = refl }

  -- what is executed under fewer rights is executed under more
  executed_more : {A B : Type 0} (c d : Capability) (object : Target) (sized : Bool) (rule : Rule)
      (execute : Target → Result A StoreRefusal) (a : A)
      → judged_in s c ≡ Ok object → judged_in s d ≡ Ok object → FewerRights c d
      → (x : Executed s sized rule c execute a)
      → (more : Target → Result B StoreRefusal) (b : B) → more x.target ≡ Ok b
      → result_of s sized rule d more ≡ Ok b
  executed_more c d object sized rule execute a jc jd fewer x more b made =
      executes s sized rule d more b (record {
        fits = x.fits;
        sound = x.sound;
        unit = x.unit;
        form = x.form;
        object = object;
        authentic = jd;
        target = x.target;
        authorized =
            more_permitted c d fewer rule.need object x.target
            (subst (λ t. authorized_target rule.need t c.rights.bits ≡ Ok x.target)
            (same_ok (sym x.authentic ∙ jc)) x.authorized);
        usable = x.usable;
        made = made;
      })

  more_rights : MoreRights F s
  more_rights c d x y objects fewer ask scratch told e =
      let p = accepted_passes c x in
      let q = accepted_passes d y in
      let same : q.0 ≡ p.0 =
      (let u = p.1.object in let w = ap (target_at s.memory) objects ∙ q.1.object in cc) in
      by ask e (passes_judged s c p.0 p.1) (passes_judged s d q.0 q.1 ∙ ap Ok same)
    where
      by : (ask : Ask) → answer_in s (call_with c ask scratch) ≡ Ok told → {object : Target}
          → judged_in s c ≡ Ok object → judged_in s d ≡ Ok object
          → SameAnswer F s c d ask scratch told
      by (query q) e {object} jc jd =
          let rule : Rule = rule_of (query q) in
          let was = executed s (sizes_agree s) rule c (told_at s c.rights.bits q) told e in
          let alike = told_alike q c d was.target told fewer was.made in
          record {
            more = alike.more;
            answers =
                executed_more c d object (sizes_agree s) rule (told_at s c.rights.bits q) told jc jd
                fewer was (told_at s d.rights.bits q) alike.more alike.tells;
            alike = alike.alike;
            after = refl;
            scratch = refl;
          }
      by (update u) e {object} jc jd =
          let rule : Rule = rule_of (update u) in
          let left : List ℕ = scratch_after s rule scratch in
          let made = answered s left (decision s c u scratch) told e in
          let was = executed s (is_sized s rule scratch) rule c (change_at s u) made.0 made.1.0 in
          let same : outcome_of s d u scratch ≡ outcome_of s c u scratch =
          ap (outcome_by s left) (executed_more c d object (is_sized s rule scratch) rule
          (change_at s u) made.0 jc jd fewer was (change_at s u) made.0 was.made
          ∙ sym made.1.0) in
          record {
            more = told;
            answers = ap (λ o. o.answer) same ∙ e;
            alike = refl;
            after = ap (λ o. o.after) same;
            scratch = ap (λ o. o.scratch) same;
          }

-- over every run from a tied beginning
module _ (F : Family) (family : IsCommuting F) (first : Grant) (start : State)
    (tied : Tied F start.kept.port first [] start) (brought : RowsBrought [] start) where
  run : (calls : List Call)
      → Tied F start.kept.port first (history start calls) (state_after start calls)
  run = tied_run F start.kept.port first start tied

  found_run : (calls : List Call) → Looks F (history start calls)
  found_run calls = looks_run F start.kept.port first start tied brought calls

  module _ (calls : List Call) where
    equal_bytes : EqualBytes F first start calls
    equal_bytes = record {
      same_sixteen_bytes =
          same_sixteen_bytes F family start.kept.port first (history start calls)
          (state_after start calls) (run calls) (found_run calls);
      accepted_while_standing =
          while_standing F family start.kept.port first (history start calls)
          (state_after start calls) (run calls) (found_run calls);
    }

    accepted_exactly : AcceptedExactly F.function first start calls
    accepted_exactly = record {
      only_when =
          λ c ports x. only_when F family start.kept.port first (history start calls)
          (state_after start calls) (run calls) (found_run calls) c x;
      when =
          λ c ports. when F family start.kept.port first (history start calls)
          (state_after start calls) (run calls) (found_run calls) c
          (ports ∙ ap (λ p. p.bytes) (sym (run calls).port_same));
      one_rights_byte =
          one_rights_byte F family start.kept.port first (history start calls)
          (state_after start calls) (run calls) (found_run calls);
    }

  pub law_of_runs : LawOfRuns F first start
  law_of_runs = record {
    acceptance_shows =
        λ calls. shows F family start.kept.port first (history start calls)
        (state_after start calls) (run calls) (found_run calls);
    equal_rights_equal_bytes = equal_bytes;
    accepted_exactly_when = accepted_exactly;
    more_rights_same_answer =
        λ calls. more_rights F family start.kept.port first (history start calls)
        (state_after start calls) (run calls) (found_run calls);
  }
