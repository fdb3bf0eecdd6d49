-- The judgement of a capability, by the secret of its object.
use Rattle.std.proofs.Common.{◌≡◌, ℕ, Bool, true, false, is_err, Some, None, Ok, Err, Option, Result, sym, refl, ap, ◌∙◌, arith}
use Rattle.std.specs.Option.{option_map}
use Rattle.refusal.specs.Chains.{unless, given}
use Rattle.holder.specs.Dropping.{check_number}
use Rattle.holder.specs.declared.capability.Capability.{Capability}
use Rattle.secret.specs.Accepted.{is_accepted}
use Rattle.secret.specs.declared.secret.Secret.{Secret}
use Rattle.std.specs.Str.{bytes_eq}
use Rattle.std.proofs.lemmas.Slice.Eq.{bytes_eq-Decides}
use Rattle.admission.specs.Objects.{target_at, secret_of, object_number}
use Rattle.admission.specs.declared.error.Denial.{Denial}
use Rattle.admission.specs.declared.error.Denial.TheVariants.{WrongPort, NoSuchObject, WrongCheck}
use Rattle.admission.specs.declared.target.Target.{Target}
use Rattle.admission.specs.declared.target.Target.TheVariants.{Itself, File, Directory}
use Rattle.runs.specs.Views.{View, the_store, a_file, a_directory, view_of, view_at}
use Rattle.refusal.proofs.ChainFacts.{unless_ok, given_ok, same_ok}
use Rattle.runs.proofs.Lateness.{judged_in}
use Rattle.store.specs.State.{State}

-- the secret of an object that is seen
abbrev pub secret_in : View → Secret
secret_in (the_store s) = s
secret_in (a_file s bs) = s
secret_in (a_directory s rows) = s

abbrev pub secret_seen : State → ℕ → Option Secret
secret_seen s o = option_map secret_in (view_at s o)

module _ (s : State) where
  -- the secret judged by is the one seen
  secret_at : (t : Target) → secret_in (view_of s t) ≡ secret_of s.kept.own t
  secret_at Itself = refl
  secret_at (File p r) = refl
  secret_at (Directory p d) = refl

  pub secret_located : (o : ℕ) (t : Target) → target_at s.memory o ≡ Some t
      → secret_seen s o ≡ Some (secret_of s.kept.own t)
  secret_located o t e =
      ap (λ x. option_map secret_in (option_map (view_of s) x)) e ∙ ap Some (secret_at t)

  -- a secret that is seen is that of a live object
  pub secret_target : (o : ℕ) (secret : Secret) → secret_seen s o ≡ Some secret
      → (t : Target) × ((target_at s.memory o ≡ Some t) × (secret_of s.kept.own t ≡ secret))
  secret_target o secret e = by (target_at s.memory o) refl
    where
      by : (x : Option Target) → target_at s.memory o ≡ x
          → (t : Target) × ((target_at s.memory o ≡ Some t) × (secret_of s.kept.own t ≡ secret))
      by None none =
          absurd (let same = ap (λ x. option_map secret_in (option_map (view_of s) x)) none in
          let z : ◌≡◌ {A = ℕ} 0 1 = cc in omega arith)
      by (Some t) some = (t, (some, (let same = secret_located o t some in cc)))

  module _ (c : Capability) where
    abbrev pub accepted_by : Secret → Bool
    accepted_by secret = is_accepted s.kept.family secret.value c.rights.bits (check_number c)

    abbrev check : Target → Result Target Denial
    check t = unless (accepted_by (secret_of s.kept.own t)) WrongCheck (Ok t)

    -- a capability that passes: this port, a live object, and a check that its secret accepts
    pub record Passes (t : Target) : Type 0 where
      pub port : c.port.bytes ≡ s.kept.port.bytes
      pub object : target_at s.memory (object_number c) ≡ Some t
      pub accepts : accepted_by (secret_of s.kept.own t) ≡ true

    pub judged_passes : (t : Target) → judged_in s c ≡ Ok t → Passes t
    judged_passes t e =
        let port =
        unless_ok (bytes_eq c.port.bytes s.kept.port.bytes) WrongPort
        (given (target_at s.memory (object_number c)) NoSuchObject check) t e in
        let object = given_ok (target_at s.memory (object_number c)) NoSuchObject check t port.1 in
        let accept =
        unless_ok (accepted_by (secret_of s.kept.own object.0)) WrongCheck (Ok object.0) t
        object.1.1 in
        let same : object.0 ≡ t = same_ok accept.1 in
        record {
          port = (bytes_eq-Decides c.port.bytes s.kept.port.bytes).0 port.0;
          object = object.1.0 ∙ ap Some same;
          accepts = ap (λ x. accepted_by (secret_of s.kept.own x)) (sym same) ∙ accept.0;
        }

    pub passes_judged : (t : Target) → Passes t → judged_in s c ≡ Ok t
    passes_judged t p =
        ap (λ b. unless b WrongPort
        (given (target_at s.memory (object_number c)) NoSuchObject check))
        ((bytes_eq-Decides c.port.bytes s.kept.port.bytes).1 p.port)
        ∙ ap (λ x. given x NoSuchObject check) p.object
        ∙ ap (λ b. unless b WrongCheck (Ok t)) p.accepts

-- no refusal is an answer
pub is_ok : {A E : Type 0} (r : Result A E) → is_err r ≡ false → (a : A) × (r ≡ Ok a)
is_ok (Ok a) h = (a, refl)
is_ok (Err e) h = absurd (let z : ◌≡◌ {A = ℕ} 0 1 = cc in omega arith)
