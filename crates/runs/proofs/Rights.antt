-- More rights permit more.
use Rattle.std.proofs.Common.{◌≡◌, ℕ, ◌<◌, Bool, true, false, ◌&&◌, ◌||◌, List, [], ◌∷◌, Ok, refl, ap, ◌∙◌, arith}
use Rattle.std.specs.List.{AllByRecursion, list_any}
use Rattle.std.proofs.Math.Bool.{or-true}
use Rattle.std.proofs.lemmas.Bool.{and_parts}
use Rattle.refusal.specs.Chains.{unless}
use Rattle.refusal.proofs.ChainFacts.{unless_ok}
use Rattle.family.specs.Rights.{has_right}
use Rattle.holder.specs.declared.capability.Capability.{Capability}
use Rattle.admission.specs.Admission.{authorized_target}
use Rattle.admission.specs.Needs.{fits_kinds, have_common_right}
use Rattle.admission.specs.declared.error.Denial.TheVariants.{WrongKind, RightMissing}
use Rattle.admission.specs.declared.need.Need.{Need}
use Rattle.admission.specs.declared.target.Target.{Target}
use Rattle.runs.specs.Law.{FewerRights}

module _ (c d : Capability) (fewer : FewerRights c d) (asked : ℕ) where
  -- whoever has more rights has one of a list where the other has
  more_any : (ks : List ℕ) → AllByRecursion (λ k. k < 8) ks
      → list_any (λ k. has_right c.rights.bits k && has_right asked k) ks ≡ true
      → list_any (λ k. has_right d.rights.bits k && has_right asked k) ks ≡ true
  more_any [] low h = h
  more_any (k ∷ ks) low h =
      by (has_right c.rights.bits k && has_right asked k) refl h (more_any ks low.1)
    where
      by : (b : Bool) → (has_right c.rights.bits k && has_right asked k) ≡ b
          → (b || list_any (λ k. has_right c.rights.bits k && has_right asked k) ks) ≡ true
          → (list_any (λ k. has_right c.rights.bits k && has_right asked k) ks ≡ true
          → list_any (λ k. has_right d.rights.bits k && has_right asked k) ks ≡ true)
          → ((has_right d.rights.bits k && has_right asked k)
          || list_any (λ k. has_right d.rights.bits k && has_right asked k) ks) ≡ true
      by true q e rest =
          let held = and_parts (has_right c.rights.bits k) (has_right asked k) q in
          ap (λ b. (b && has_right asked k)
          || list_any (λ k. has_right d.rights.bits k && has_right asked k) ks)
          (fewer k low.0 held.0)
          ∙ ap (λ b. b || list_any (λ k. has_right d.rights.bits k && has_right asked k) ks) held.1
      by false q e rest =
          ap (λ b. (has_right d.rights.bits k && has_right asked k) || b) (rest e)
          ∙ or-true (has_right d.rights.bits k && has_right asked k)

  more_has_one : have_common_right c.rights.bits asked ≡ true
      → have_common_right d.rights.bits asked ≡ true
  unfolding have_common_right
  more_has_one h = more_any (0 ∷ 1 ∷ 2 ∷ 3 ∷ 4 ∷ 5 ∷ 6 ∷ 7 ∷ []) (omega arith) h

module _ (c d : Capability) (fewer : FewerRights c d) where
  -- and what is permitted to the other is permitted to him
  pub more_permitted : (need : Need) (t s : Target) → authorized_target need t c.rights.bits ≡ Ok s
      → authorized_target need t d.rights.bits ≡ Ok s
  more_permitted need t s e =
      let kind =
      unless_ok (fits_kinds need.kinds t) WrongKind
      (unless (have_common_right c.rights.bits need.rights) RightMissing (Ok t)) s e in
      let right =
      unless_ok (have_common_right c.rights.bits need.rights) RightMissing (Ok t) s kind.1 in
      ap (λ b. unless b WrongKind
      (unless (have_common_right d.rights.bits need.rights) RightMissing (Ok t))) kind.0
      ∙ ap (λ b. unless b RightMissing (Ok t)) (more_has_one c d fewer need.rights right.0)
      ∙ right.1
