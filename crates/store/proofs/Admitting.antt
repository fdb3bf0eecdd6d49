-- What holds where a capability is admitted: memory is in order, what is brought is well formed,
-- and the object stands live.
use Rattle.std.proofs.Common.{◌≡◌, ℕ, ◌*◌, Bool, true, eqb, length, Some, Ok, Result, ap, ◌∙◌}
use Rattle.std.proofs.lemmas.Bool.{and_parts, eqb-true}
use Rattle.refusal.specs.Chains.{unless}
use Rattle.refusal.proofs.ChainFacts.{same_ok, unless_ok, and_then_ok, given_ok, refused_as_ok}
use Rattle.holder.specs.Dropping.{check_number}
use Rattle.holder.specs.declared.capability.Capability.{Capability}
use Rattle.secret.specs.Accepted.{is_accepted}
use Rattle.std.specs.Str.{bytes_eq}
use Rattle.admission.specs.Admission.{authentic_target, authorized_target}
use Rattle.admission.specs.Needs.{fits_kinds, have_common_right}
use Rattle.admission.specs.Objects.{target_at, secret_of, object_number}
use Rattle.admission.specs.declared.error.Denial.TheVariants.{WrongPort, NoSuchObject, WrongCheck, WrongKind, RightMissing}
use Rattle.admission.specs.declared.target.Target.{Target}
use Rattle.admission.specs.declared.need.Need.{Need}
use Rattle.store.specs.Inside.{admitted_at, admitted_by, validation}
use Rattle.store.specs.Order.{IsInOrder}
use Rattle.store.specs.Sizes.{sizes_agree}
use Rattle.store.specs.State.{State, is_sound_for}
use Rattle.store.specs.declared.error.StoreRefusal.{StoreRefusal}
use Rattle.store.specs.declared.error.StoreRefusal.TheVariants.{WrongSizes, UnsoundMemory, Denied}
use Rattle.store.specs.declared.rule.Rule.{Rule}
use Rattle.store.proofs.OrderFacts.{Executed}

-- a permission is for the object that was asked about
pub permitted_same : (need : Need) (t target : Target) (rights : ℕ)
    → authorized_target need t rights ≡ Ok target → t ≡ target
permitted_same need t target rights e =
    let kind = unless_ok (fits_kinds need.kinds t) WrongKind _ target e in
    same_ok (unless_ok (have_common_right rights need.rights) RightMissing (Ok t) target kind.1).1

module _ (s : State) where
  -- sizes that agree, in words
  pub sizes_same : sizes_agree s ≡ true
      → (length s.memory.files ≡ s.kept.files) × (length s.memory.directories ≡ s.kept.directories)
      × (length s.memory.rows ≡ 16 * s.kept.directories)
  sizes_same e =
      let sizes = and_parts (eqb (length s.memory.files) s.kept.files) _ e in
      let more = and_parts (eqb (length s.memory.directories) s.kept.directories) _ sizes.1 in
      let last = and_parts (eqb (length s.memory.rows) (16 * s.kept.directories)) _ more.1 in (
        eqb-true (length s.memory.files) s.kept.files sizes.0,
        eqb-true (length s.memory.directories) s.kept.directories more.0,
        eqb-true (length s.memory.rows) (16 * s.kept.directories) last.0,
      )

  -- what passes validation has its memory in order and its form right
  pub validated : (form : Result (Unit {0}) StoreRefusal) (u : Unit {0}) → validation s form ≡ Ok u
      → IsInOrder s × (form ≡ Ok u)
  validated form u e =
      let sized = unless_ok (sizes_agree s) WrongSizes _ u e in
      let sound = unless_ok (is_sound_for s) UnsoundMemory form u sized.1 in
      (record { sizes = sized.0; sound = sound.0 }, sound.1)

  module _ (c : Capability) where
    pub judged_located : (target : Target)
        → authentic_target s.kept.family s.kept.port.bytes s.kept.own s.memory c ≡ Ok target
        → target_at s.memory (object_number c) ≡ Some target
    judged_located target e =
        let accept : Target → Bool =
        λ t. is_accepted s.kept.family (secret_of s.kept.own t).value c.rights.bits
        (check_number c) in
        let port = unless_ok (bytes_eq c.port.bytes s.kept.port.bytes) WrongPort _ target e in
        let object =
        given_ok (target_at s.memory (object_number c)) NoSuchObject
        (λ t. unless (accept t) WrongCheck (Ok t)) target port.1 in
        object.1.0 ∙ ap Some (same_ok
        (unless_ok (accept object.0) WrongCheck (Ok object.0) target object.1.1).1)

    -- an object that is admitted has the capability's number
    pub admitted_located : (need : Need) (place : ℕ) (target : Target)
        → admitted_at s need c place ≡ Ok target
        → target_at s.memory (object_number c) ≡ Some target
    admitted_located need place target e =
        let judge =
        and_then_ok (authentic_target s.kept.family s.kept.port.bytes s.kept.own s.memory c)
        (λ t. authorized_target need t c.rights.bits) target
        (refused_as_ok (λ d. Denied d place) _ target e) in
        judged_located judge.0 judge.1.0
        ∙ ap Some (permitted_same need judge.0 target c.rights.bits judge.1.1)

    -- so has one at which a request is executed
    pub executed_located : {A : Type 0} (sized : Bool) (rule : Rule)
        (execute : Target → Result A StoreRefusal) (a : A) (x : Executed s sized rule c execute a)
        → target_at s.memory (object_number c) ≡ Some x.target
    executed_located sized rule execute a x =
        judged_located x.object x.authentic
        ∙ ap Some (permitted_same rule.need x.object x.target c.rights.bits x.authorized)

    -- an object that is admitted by a rule is so over memory in order, where what is brought is
    -- well formed
    pub record Passed (rule : Rule) (target : Target) : Type 0 where
      pub order : IsInOrder s
      pub unit : Unit {0}
      pub form : rule.form ≡ Ok unit
      pub object : target_at s.memory (object_number c) ≡ Some target

    pub passed : (rule : Rule) (target : Target) → admitted_by s rule c ≡ Ok target
        → Passed rule target
    passed rule target e =
        let first =
        and_then_ok (validation s rule.form) (λ _. admitted_at s rule.need c rule.place) target
        e in
        let valid = validated rule.form first.0 first.1.0 in
        record {
          order = valid.0;
          unit = first.0;
          form = valid.1;
          object =
              admitted_located rule.need rule.place target first.1.1;
        }
