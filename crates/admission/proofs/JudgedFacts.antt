-- What an accepted capability is, and that what is left of it is accepted.
use Rattle.std.proofs.Common.{◌≡◌, ℕ, ◌<◌, Bool, true, List, Some, Ok, Result, sym, ap, ◌∙◌}
use Rattle.refusal.specs.Chains.{unless, given}
use Rattle.refusal.proofs.ChainFacts.{unless_ok, given_ok, same_ok}
use Rattle.family.specs.Commuting.{Family, IsCommuting}
use Rattle.holder.specs.Dropping.{check_number, within_mask}
use Rattle.holder.specs.declared.capability.Capability.{Capability}
use Rattle.secret.specs.Accepted.{is_accepted}
use Rattle.secret.specs.declared.secret.Secret.{Secret}
use Rattle.secret.proofs.AcceptFacts.{accepted_low, accepted_kept}
use Rattle.std.specs.Str.{bytes_eq}
use Rattle.memory.specs.Soundness.{Content}
use Rattle.std.proofs.lemmas.Slice.Eq.{bytes_eq-Decides}
use Rattle.admission.specs.Admission.{authentic_target}
use Rattle.admission.specs.Objects.{target_at, secret_of, object_number}
use Rattle.admission.specs.declared.error.Denial.{Denial}
use Rattle.admission.specs.declared.error.Denial.TheVariants.{WrongPort, NoSuchObject, WrongCheck}
use Rattle.admission.specs.declared.target.Target.{Target}

module _ (F : Family) (port : List ℕ) (own : Secret) (m : Content) where
  abbrev accepts : Capability → Target → Bool
  accepts c t = is_accepted F (secret_of own t).value c.rights.bits (check_number c)

  abbrev check : Capability → Target → Result Target Denial
  check c t = unless (accepts c t) WrongCheck (Ok t)

  -- what the judgement asks: this port, a live object, and a check that its secret accepts
  record Passes (c : Capability) (t : Target) : Type 0 where
    port_is : c.port.bytes ≡ port
    object_is : target_at m (object_number c) ≡ Some t
    check_is : accepts c t ≡ true

  judged_passes : (c : Capability) (t : Target) → authentic_target F port own m c ≡ Ok t
      → Passes c t
  judged_passes c t e =
      let here =
      unless_ok (bytes_eq c.port.bytes port) WrongPort
      (given (target_at m (object_number c)) NoSuchObject (check c)) t e in
      let object = given_ok (target_at m (object_number c)) NoSuchObject (check c) t here.1 in
      let accept = unless_ok (accepts c object.0) WrongCheck (Ok object.0) t object.1.1 in
      let same : object.0 ≡ t = same_ok accept.1 in
      record {
        port_is = (bytes_eq-Decides c.port.bytes port).0 here.0;
        object_is = object.1.0 ∙ ap Some same;
        check_is = ap (accepts c) (sym same) ∙ accept.0;
      }

  passes_judged : (c : Capability) (t : Target) → Passes c t
      → authentic_target F port own m c ≡ Ok t
  passes_judged c t p =
      ap (λ b. unless b WrongPort (given (target_at m (object_number c)) NoSuchObject (check c)))
      ((bytes_eq-Decides c.port.bytes port).1 p.port_is)
      ∙ ap (λ x. given x NoSuchObject (check c)) p.object_is
      ∙ ap (λ b. unless b WrongCheck (Ok t)) p.check_is

  pub judged_low : (c : Capability) (t : Target) → authentic_target F port own m c ≡ Ok t
      → check_number c < F.modulus
  judged_low c t e =
      accepted_low F (secret_of own t).value c.rights.bits (check_number c)
      (judged_passes c t e).check_is

  pub judged_at : (c : Capability) (t : Target) → authentic_target F port own m c ≡ Ok t
      → target_at m (object_number c) ≡ Some t
  judged_at c t e = (judged_passes c t e).object_is

  -- what is left of an accepted capability is accepted
  pub judged_kept : IsCommuting F → (c : Capability) (t : Target) (mask : ℕ) → mask < 256
      → (secret_of own t).value < F.modulus
      → authentic_target F port own m c ≡ Ok t
      → authentic_target F port own m (within_mask F.function c mask) ≡ Ok t
  judged_kept family c t mask q h e =
      let p : Passes c t = judged_passes c t e in
      passes_judged (within_mask F.function c mask) t (record {
        port_is = p.port_is;
        object_is = p.object_is;
        check_is = accepted_kept F family (secret_of own t).value h c mask q p.check_is;
      })
