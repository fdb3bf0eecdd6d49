-- Judging a check, by the missing rights and by the family's own functions.
use Rattle.std.proofs.Common.{◌≡◌, ℕ, ◌-◌, ◌<◌, Bool, true, ◌&&◌, eqb, ltb, sym, ap, ◌∙◌, inl, inr, arith}
use Rattle.std.proofs.lemmas.Bool.{lt-ltb, ltb-true, le-ltb, eq-eqb, eqb-true, ne_eqb, and_parts, cases_lt}
use Rattle.family.specs.Commuting.{Family, IsCommuting, apply}
use Rattle.family.specs.Rights.{has_right, lacks_right}
use Rattle.family.specs.Thin.{thin}
use Rattle.family.proofs.ThinFacts.{thin_like, thin_laws, thin_asked}
use Rattle.holder.specs.Dropping.{check_number, within_mask}
use Rattle.holder.specs.Laws.{IsGenuine}
use Rattle.holder.specs.declared.capability.Capability.{Capability}
use Rattle.holder.proofs.BitFacts.{has_not}
use Rattle.holder.proofs.ThinningFacts.{kept_genuine}
use Rattle.secret.specs.Accepted.{is_plausible, is_match, is_accepted}

-- the rights outside a byte are the missing ones
pub accepted_outside : (F : Family) (s rights v w : ℕ) (r : Bool) → rights < 256 → v ≡ w
    → r ≡ is_match F s (has_right (255 - rights)) v → r ≡ is_accepted F s rights w
accepted_outside F s rights v w r h e k =
    k ∙ ap (is_match F s (has_right (255 - rights))) e
    ∙ ap (λ x. is_plausible F.modulus w && eqb w x)
    (thin_like (apply F) (has_right (255 - rights)) (lacks_right rights) s
    (λ i q. has_not rights i h q))

-- a secret below the modulus thins to a number below it, so that the early test changes no answer
pub accepted_plain : (F : Family) → IsCommuting F → (s rights v : ℕ) → s < F.modulus
    → is_accepted F s rights v ≡ eqb v (thin F.function s (lacks_right rights))
accepted_plain F family s rights v h =
    ap (λ x. is_plausible F.modulus v && eqb v x) (thin_asked F family s (lacks_right rights) h)
    ∙ elim (cases_lt v F.modulus) [
      | inl p ↦ ap (λ b. b && eqb v genuine) (lt-ltb v F.modulus p)
      | inr p ↦
          let low : genuine < F.modulus =
          (thin_laws F family).stays_below s (lacks_right rights) h in
          ap (λ b. b && eqb v genuine) (le-ltb v F.modulus p)
          ∙ sym (ne_eqb v genuine (λ e. omega arith))
    ]
  where
    genuine : ℕ
    genuine = thin F.function s (lacks_right rights)

-- what a secret accepts is plausible
pub accepted_low : (F : Family) (s rights v : ℕ) → is_accepted F s rights v ≡ true → v < F.modulus
accepted_low F s rights v e =
    ltb-true v F.modulus (and_parts (ltb v F.modulus)
    (eqb v (thin (apply F) s (lacks_right rights)))
    e).0

-- what is left of an accepted capability is accepted
pub accepted_kept : (F : Family) → IsCommuting F → (s : ℕ) → s < F.modulus
    → (c : Capability) (m : ℕ)
    → m < 256
    → is_accepted F s c.rights.bits (check_number c) ≡ true
    → is_accepted F s (within_mask F.function c m).rights.bits
    (check_number (within_mask F.function c m)) ≡ true
accepted_kept F family s h c m q e =
    let less : Capability = within_mask F.function c m in
    let genuine : IsGenuine F.function s c =
    eqb-true (check_number c) (thin F.function s (lacks_right c.rights.bits))
    (sym (accepted_plain F family s c.rights.bits (check_number c) h) ∙ e) in
    accepted_plain F family s less.rights.bits (check_number less) h
    ∙ eq-eqb (check_number less) (thin F.function s (lacks_right less.rights.bits))
    (kept_genuine F family c m s q h genuine)
