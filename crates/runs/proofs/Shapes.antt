-- Descendants of an owner capability have one shape: its port and object, and the genuine check for
-- their rights.
use Rattle.std.proofs.Common.{◌≡◌, ℕ, ◌<◌, ltb, List, Some, Ok, sym, refl, ap, ◌∙◌, subst, arith}
use Rattle.std.proofs.lemmas.Bool.{ltb-true}
use Rattle.family.specs.Commuting.{Family, IsCommuting}
use Rattle.family.specs.Rights.{lacks_right, no_rights}
use Rattle.family.proofs.Tables.{at_each, agree, agreed}
use Rattle.family.specs.Thin.{thin}
use Rattle.family.proofs.ThinFacts.{thin_like, thin_empty}
use Rattle.holder.specs.Dropping.{all_rights_but, check_number, within_mask, thin_to}
use Rattle.holder.specs.Laws.{IsGenuine}
use Rattle.holder.specs.Layout.{capability_bytes}
use Rattle.holder.specs.declared.capability.Capability.{Capability}
use Rattle.holder.specs.declared.object.Object.{Object}
use Rattle.holder.specs.declared.capability.Port.{Port}
use Rattle.holder.specs.declared.error.HolderRefusal.TheVariants.{NoSuchRight, CheckTooLarge}
use Rattle.holder.proofs.CheckFacts.{same_check}
use Rattle.holder.proofs.ThinningFacts.{Whole, number_six, kept_whole, kept_genuine, dropped_thins}
use Rattle.secret.specs.Owner.{owner_capability}
use Rattle.refusal.proofs.ChainFacts.{unless_ok, same_ok}
use Rattle.store.specs.Requests.{found}
use Rattle.runs.specs.Descent.{IsDescendant, itself, by_dropping, by_thinning, by_looking}
use Rattle.runs.specs.Entries.{HasHappened, path_end, names_asked}
use Rattle.runs.specs.History.{Event}

-- what a descendant of an owner capability with the secret s is
pub record Shape (f : ℕ → ℕ → ℕ) (s : ℕ) (owner c : Capability) : Type 0 where
  pub port : c.port ≡ owner.port
  pub object : c.object ≡ owner.object
  pub whole : Whole c
  pub genuine : IsGenuine f s c

-- what a look-up or walk found is what is left of the capability that was last entered at the end
-- of its way
pub record Looked (F : Family) (e : Event) (before : List Event) (d : Capability) : Type 0 where
  pub brought : Capability
  pub mask : ℕ
  pub narrow : mask < 256
  pub low : check_number brought < F.modulus
  pub way : path_end before e.call.presented (names_asked e.call.ask) ≡ Some brought
  pub given : d ≡ within_mask F.function brought mask

-- so it was with every one that happened
abbrev pub Looks : Family → List Event → Type 0
Looks F es =
    (e : Event) (before : List Event) → HasHappened es e before → (d : Capability)
    → e.answer ≡ Ok (found d) → Looked F e before d

-- with equal rights it is the same capability
pub same_shape : (f : ℕ → ℕ → ℕ) (s : ℕ) (owner c d : Capability) → Shape f s owner c
    → Shape f s owner d → c.rights.bits ≡ d.rights.bits → capability_bytes c ≡ capability_bytes d
same_shape f s owner c d x y rights =
    let number : check_number c ≡ check_number d =
    x.genuine ∙ ap (λ r. thin f s (lacks_right r)) rights ∙ sym y.genuine in
    let check : c.check ≡ d.check = same_check c.check d.check number in
    let port : c.port ≡ d.port = x.port ∙ sym y.port in
    let object : c.object ≡ d.object = x.object ∙ sym y.object in
    λ i. capability_bytes (record {
      port = port i;
      object = object i;
      rights =
          record { bits = rights i };
      check = check i;
    })

module _ (F : Family) (family : IsCommuting F) (port : Port) (object : Object) (s : ℕ)
    (below : s < F.modulus) where
  abbrev owner : Capability
  owner = owner_capability port object s

  -- no right is missing of all eight
  none_missing : (k : ℕ) → k < 8 → lacks_right 255 k ≡ no_rights k
  none_missing k h =
      agreed (lacks_right 255 k) (no_rights k)
      (at_each (λ j. agree (lacks_right 255 j) (no_rights j)) 8 refl k h)

  owner_shape : Shape F.function s owner owner
  owner_shape = record {
    port = refl;
    object = refl;
    whole = record { byte = omega arith };
    genuine =
        number_six F family s below
        ∙ sym (thin_like F.function (lacks_right 255) no_rights s none_missing
        ∙ thin_empty F.function s);
  }

  -- what is left of such a capability has the shape
  kept_shape : (c : Capability) (mask : ℕ) → mask < 256 → check_number c < F.modulus
      → Shape F.function s owner c → Shape F.function s owner (within_mask F.function c mask)
  kept_shape c mask h low x = record {
    port = x.port;
    object = x.object;
    whole = kept_whole F family c mask x.whole.byte low;
    genuine = kept_genuine F family c mask s h below x.genuine;
  }

  thinned_shape : (c d : Capability) (mask : ℕ) → mask < 256 → Shape F.function s owner c
      → thin_to F c mask ≡ Ok d → Shape F.function s owner d
  thinned_shape c d mask h x e =
      let judged =
      unless_ok (ltb (check_number c) F.modulus) CheckTooLarge
      (Ok (within_mask F.function c mask)) d e in
      let low : check_number c < F.modulus = ltb-true (check_number c) F.modulus judged.0 in
      subst (Shape F.function s owner) (same_ok judged.1) (kept_shape c mask h low x)

  pub descends_shape : (es : List Event) → Looks F es → (c : Capability) → IsDescendant F es owner c
      → Shape F.function s owner c
  descends_shape es looks c itself = owner_shape
  descends_shape es looks c (by_dropping b d k from e) =
      let before = descends_shape es looks b from in
      let right = unless_ok (ltb k 8) NoSuchRight _ d e in
      let low : k < 8 = ltb-true k 8 right.0 in
      thinned_shape b d (all_rights_but k) (omega arith) before
      (sym (dropped_thins F family b k before.whole low) ∙ e)
  descends_shape es looks c (by_thinning b d mask h from e) =
      thinned_shape b d mask h (descends_shape es looks b from) e
  descends_shape es looks c (by_looking e before b d happened answer way from) =
      let look = looks e before happened d answer in
      let same : look.brought ≡ b = (let x = look.way in cc) in
      subst (Shape F.function s owner) (sym look.given)
      (kept_shape look.brought look.mask look.narrow look.low
      (subst (Shape F.function s owner) (sym same) (descends_shape es looks b from)))
