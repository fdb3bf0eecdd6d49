-- The beginning of a run: a store that was just opened is tied to its history, which has only the
-- opening.
use Rattle.std.proofs.Common.{◌≡◌, ℕ, zero, suc, ◌*◌, ◌≤◌, Bool, true, false, ◌&&◌, eqb, leb, List, [], length, replicate, IfOk, Some, None, Ok, Err, Option, Result, sym, refl, ap, ◌∙◌, subst, inl, inr, arith}
use Rattle.std.specs.Option.{option_map}
use Rattle.std.specs.List.{slice_get}
use Rattle.std.proofs.lemmas.List.{length-replicate}
use Rattle.std.proofs.lemmas.Bool.{and_from, and_parts, cases_eq, eq-eqb, eqb-true, false≢true, leb-true, ne_eqb, cond-false}
use Rattle.refusal.proofs.ChainFacts.{same_ok, unless_ok}
use Rattle.family.specs.Commuting.{Family, IsCommuting}
use Rattle.holder.specs.declared.capability.Capability.{Capability}
use Rattle.holder.specs.declared.capability.Port.{Port}
use Rattle.secret.specs.Fitness.{is_fit}
use Rattle.secret.specs.declared.secret.Secret.{Secret}
use Rattle.memory.specs.Records.{zero_file, zero_directory}
use Rattle.memory.specs.Soundness.{Content}
use Rattle.memory.specs.Wiped.{zeros_like}
use Rattle.admission.specs.Objects.{target_at}
use Rattle.admission.specs.declared.target.Target.{Target}
use Rattle.admission.specs.declared.target.Target.TheVariants.{Itself, File, Directory}
use Rattle.store.specs.Order.{IsInOrder}
use Rattle.store.specs.Outcomes.{Change}
use Rattle.store.specs.State.{kept_of, State}
use Rattle.store.specs.Open.{opened_as, new_store, is_openable, opening_with, opening}
use Rattle.store.specs.Kept.{Kept, grant_of}
use Rattle.store.specs.Requests.{granted, Told}
use Rattle.store.specs.Sizes.{is_full_scratch, are_sizes_lawful}
use Rattle.runs.specs.Views.{view_of, view_at}
use Rattle.store.specs.declared.open.Opened.{Opened}
use Rattle.store.specs.declared.error.StoreRefusal.{StoreRefusal}
use Rattle.store.specs.declared.error.StoreRefusal.TheVariants.{WrongSizes, UnfitSecret}
use Rattle.runs.proofs.SoundKept.{wiped_sound}
use Rattle.store.proofs.Standing.{Stands, located_stands}
use Rattle.runs.specs.Grants.{Grant, object_granted, standing_grant}
use Rattle.runs.specs.Law.{LawOfRuns}
use Rattle.runs.specs.Opening.{first_grant, start_state}
use Rattle.runs.proofs.Invariant.{Tied, GoodGrant, secret_granted}
use Rattle.runs.proofs.LawFacts.{law_of_runs}
use Rattle.runs.proofs.Traced.{RowsBrought}
use Rattle.runs.proofs.SecretFacts.{secret_in, secret_seen}

-- every record of a wiped table is the zero record
nth-replicate : {X : Type 0} (n : ℕ) (x y : X) (p : ℕ) → slice_get (replicate n x) p ≡ Some y
    → y ≡ x
nth-replicate zero x y p e = absurd (let z : ◌≡◌ {A = ℕ} 0 1 = cc in omega arith)
nth-replicate (suc n) x y zero e = cc
nth-replicate (suc n) x y (suc p) e = nth-replicate n x y p e

module _ (F : Family) (port : Port) (secret : Secret) (m : Content)
    (lawful : are_sizes_lawful m ≡ true) (fit : is_fit F secret.value ≡ true) where
  abbrev k : Kept
  k = new_store F port secret m

  abbrev first : Grant
  first = record { capability = grant_of k 0 secret; secret = secret }

  abbrev start : State
  start = record { kept = k; memory = zeros_like m }

  -- no object but the store is live
  none_live : (o : ℕ) (t : Target) → (o ≡ 0 → ⊥) → Stands (zeros_like m) o t → ⊥
  none_live o Itself some s = some s
  none_live o (File p r) some s = let zero-record =
      nth-replicate (length m.files) zero_file r p s.1.0 in
      let z : ◌≡◌ {A = Bool} false true = ap (λ x. x.live) (sym zero-record) ∙ s.1.1 in false≢true z
  none_live o (Directory p d) some s = let zero-record =
      nth-replicate (length m.directories) zero_directory d p s.1.0 in
      let z : ◌≡◌ {A = Bool} false true = ap (λ x. x.live) (sym zero-record) ∙ s.1.1 in false≢true z

  none_located : (o : ℕ) → (o ≡ 0 → ⊥) → target_at (zeros_like m) o ≡ None
  none_located o some = by (target_at (zeros_like m) o) refl
    where
      by : (x : Option Target) → target_at (zeros_like m) o ≡ x → x ≡ None
      by None e = refl
      by (Some t) e = absurd (none_live o t some (located_stands (zeros_like m) o t e))

  opened_secrets : (o : ℕ) → secret_seen start o ≡ secret_granted (standing_grant first [] o)
  opened_secrets o = elim (cases_eq o 0) [
    | inl e ↦ subst (λ x. secret_seen start x ≡ secret_granted (standing_grant first [] x)) (sym e)
        refl
    | inr some ↦
        ap (λ x. option_map secret_in (option_map (view_of start) x)) (none_located o some)
        ∙ ap secret_granted (sym
        (cond-false (eqb o (object_granted first)) (Some first) None (ne_eqb o 0 some)))
  ]

  -- the sizes within the limits, in words
  limits : (length m.files ≤ 256)
      × ((length m.directories ≤ 64) × (length m.rows ≡ 16 * length m.directories))
  limits =
      let files = and_parts (leb 1 (length m.files) && leb (length m.files) 256) _ lawful in
      let directories =
      and_parts (leb 1 (length m.directories) && leb (length m.directories) 64) _ files.1 in
      let rows = and_parts (eqb (length m.rows) (16 * length m.directories)) _ directories.1 in (
        leb-true (length m.files) 256 (and_parts (leb 1 (length m.files)) _ files.0).1,
        (
          leb-true (length m.directories) 64
              (and_parts (leb 1 (length m.directories)) _ directories.0).1,
          eqb-true (length m.rows) (16 * length m.directories) rows.0,
        ),
      )

  same_size : {X : Type 0} (c d : ℕ) (x : X) → c ≡ d → eqb (length (replicate c x)) d ≡ true
  same_size c d x e = eq-eqb (length (replicate c x)) d (length-replicate c x ∙ e)

  opened_order : IsInOrder start
  opened_order = record {
    sizes =
        and_from _ _ (same_size (length m.files) _ _ refl)
        (and_from _ _ (same_size (length m.directories) _ _ refl)
        (and_from _ _ (same_size (length m.rows) _ _ limits.1.1) (same_size {X =
        ℕ} (length m.area) _ 0 refl)));
    sound = wiped_sound F.modulus port.bytes m;
  }

  opened_tied : Tied F port first [] start
  opened_tied = record {
    family = refl;
    port_same = refl;
    few_files = limits.0;
    few_directories = limits.1.0;
    order = opened_order;
    secrets = opened_secrets;
    good =
        λ g e. subst (GoodGrant F port) (sym e) (record {
          object = 0;
          narrow = omega arith;
          owner =
              refl;
          fit = fit;
        });
  }

  -- no row was entered yet
  opened_brought : RowsBrought [] start
  opened_brought o secret rows e = elim (cases_eq o 0) [
    | inl z ↦ absurd (let here = sym (ap (view_at start) z) ∙ e in let q : ◌≡◌ {A = ℕ} 0 1 = cc in
        omega arith)
    | inr some ↦ absurd (let none =
        sym (ap (option_map (view_of start)) (none_located o some)) ∙ e in let q : ◌≡◌ {A = ℕ} 0 1 =
        cc in omega arith)
  ]

-- whatever was opened, its runs keep the law
module _ (F : Family) (family : IsCommuting F) (port : Port) (secret : Secret) (m : Content)
    (scratch : List ℕ) where
  -- a change by what it tells and the state then
  abbrev changed : Told → Kept → Content → Change
  changed told k m = record { told = told; after = record { kept = k; memory = m } }

  opened_law : (owner : Capability) (k : Kept) (m' : Content)
      → Ok (changed (granted owner) k m') ≡ opening F port secret m scratch
      → LawOfRuns F (record { capability = owner; secret = secret }) (record {
        kept = k;
        memory =
            m';
      })
  opened_law owner k m' e =
      let done : Change = changed (granted owner) k m' in
      let sizes =
      unless_ok (is_openable m scratch) WrongSizes (opening_with F port secret m) done
      (sym e) in
      let new = new_store F port secret m in
      let fit =
      unless_ok (is_fit F secret.value) UnfitSecret
      (Ok (changed (granted (grant_of new 0 secret)) new (zeros_like m))) done sizes.1 in
      let same : changed (granted (grant_of new 0 secret)) new (zeros_like m) ≡ done =
      same_ok fit.1 in
      let told = ap (λ x. x.told) same in
      let lawful = (and_parts (are_sizes_lawful m) (is_full_scratch scratch) sizes.0).0 in
      let law =
      law_of_runs F family (first F port secret m lawful fit.0)
      (start F port secret m lawful fit.0) (opened_tied F port secret m lawful fit.0)
      (opened_brought F port secret m lawful fit.0) in
      let owners : grant_of new 0 secret ≡ owner = cc in
      subst (λ x. LawOfRuns F (record { capability = x; secret = secret }) (record {
        kept =
            k;
        memory = m';
      })) owners
      (subst (λ x. LawOfRuns F (record {
        capability = grant_of new 0 secret;
        secret =
            secret;
      }) x.after) same law)

  pub opening_keeps : {A : Type 0} (meaning : A → Family) (m' : Content)
      (r : Result (Opened A) StoreRefusal)
      → opened_as meaning m' r ≡ opening F port secret m scratch
      → IfOk r (λ opened. LawOfRuns F (first_grant opened secret) (start_state meaning opened m'))
  opening_keeps meaning m' (Ok opened) e =
      opened_law opened.owner (kept_of meaning opened.store) m' e
  opening_keeps meaning m' (Err x) e = tt
