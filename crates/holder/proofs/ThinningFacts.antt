-- Giving rights up, in a family: every drop is a thinning, and two thinnings are one. The laws
-- follow from these.
use Rattle.std.proofs.Common.{◌≡◌, ℕ, ◌-◌, ◌<◌, ◌≤◌, Bool, true, false, cond, not, ◌&&◌, ◌||◌, eqb, ltb, List, [], ◌∷◌, IfOk, Ok, Err, Result, sym, refl, ap, ◌∙◌, subst, inl, inr, mod-eq_of_lt, arith}
use lib.Bits.{bit_and, and_comm, and_self, and_le_r}
use Rattle.std.proofs.ByRecursion.{all_kept_by}
use Rattle.std.proofs.lemmas.Bool.{lt-ltb, le-ltb, cases_lt, eqb-true, false≢true}
use Rattle.std.proofs.lemmas.Nat.{and_assoc}
use Rattle.std.specs.List.{AllByRecursion}
use Rattle.refusal.specs.Chains.{unless, and_then}
use Rattle.family.specs.Rights.{has_right, lacks_right, no_rights, union}
use Rattle.family.specs.Commuting.{Family, IsCommuting}
use Rattle.family.specs.Thin.{thin, AreDisjoint}
use Rattle.family.proofs.Tables.{at_each}
use Rattle.family.proofs.ThinFacts.{thin_like, thin_empty, thin_single, thin_laws}
use Rattle.holder.specs.Checks.{check_of}
use Rattle.holder.specs.Dropping.{check_number, with_rights, all_rights_but, without_right, drop_right, lost_rights, within_mask, thin_to}
use Rattle.holder.specs.Laws.{drop_each, rights_outside, AnyOrder, TwiceIsOnce, OneByOne, IsGenuine, StaysGenuine}
use Rattle.holder.specs.declared.capability.Capability.{Capability}
use Rattle.holder.specs.declared.error.HolderRefusal.{HolderRefusal}
use Rattle.holder.specs.declared.error.HolderRefusal.TheVariants.{NoSuchRight, CheckTooLarge}
use Rattle.holder.proofs.CheckFacts.{check_again}
use Rattle.holder.proofs.BitFacts.{has_and, has_not, has_all_but, same_byte, and_byte}

-- what the types say of a capability: its rights are a byte
pub record Whole (c : Capability) : Type 0 where
  pub byte : c.rights.bits < 256

-- a right is lost where it is held and the mask's bit is 0
has_lost : (r m k : ℕ) → m < 256 → k < 8
    → has_right (lost_rights r m) k ≡ (has_right r k && not (has_right m k))
has_lost r m k p q = has_and r (255 - m) k ∙ ap (λ b. has_right r k && b) (has_not m k p q)

-- and where it is held and not left
lost_rest : (r m k : ℕ) → m < 256 → k < 8
    → has_right (lost_rights r m) k ≡ (has_right r k && not (has_right (bit_and r m) k))
lost_rest r m k p q =
    has_lost r m k p q ∙ cases (has_right r k) (has_right m k)
    ∙ ap (λ b. has_right r k && not b) (sym (has_and r m k))
  where
    cases : (a b : Bool) → (a && not b) ≡ (a && not (a && b))
    cases true b = refl
    cases false b = refl

-- masks that leave the same rights leave the same capability
kept_like : (f : ℕ → ℕ → ℕ) (c : Capability) (a b : ℕ) → a < 256 → b < 256
    → bit_and c.rights.bits a ≡ bit_and c.rights.bits b → within_mask f c a ≡ within_mask f c b
kept_like f c a b p q e =
    let r : ℕ = c.rights.bits in
    let v : ℕ = check_number c in
    ap (λ x. with_rights c x (thin f v (has_right (lost_rights r a)))) e
    ∙ ap (with_rights c (bit_and r b))
    (thin_like f (has_right (lost_rights r a)) (has_right (lost_rights r b)) v
    (λ k h. lost_rest r a k p h ∙ ap (λ x. has_right r k && not (has_right x k)) e
    ∙ sym (lost_rest r b k q h)))

-- what two masks lose, one after the other, is what their meet loses, and nothing is lost twice
module _ (r m m' : ℕ) (p : m < 256) (p' : m' < 256) where
  lost_second : (k : ℕ) → k < 8
      → has_right (lost_rights (bit_and r m) m') k
      ≡ ((has_right r k && has_right m k) && not (has_right m' k))
  lost_second k q =
      has_lost (bit_and r m) m' k p' q ∙ ap (λ b. b && not (has_right m' k)) (has_and r m k)

  lost_both : (k : ℕ) → k < 8
      → union (has_right (lost_rights r m)) (has_right (lost_rights (bit_and r m) m')) k
      ≡ has_right (lost_rights r (bit_and m m')) k
  lost_both k q =
      ap (λ b. b || has_right (lost_rights (bit_and r m) m') k) (has_lost r m k p q)
      ∙ ap (λ b. (has_right r k && not (has_right m k)) || b) (lost_second k q)
      ∙ cases (has_right r k) (has_right m k) (has_right m' k)
      ∙ ap (λ b. has_right r k && not b) (sym (has_and m m' k))
      ∙ sym (has_lost r (bit_and m m') k (and_byte m m' p) q)
    where
      cases : (a b d : Bool) → ((a && not b) || ((a && b) && not d)) ≡ (a && not (b && d))
      cases true true true = refl
      cases true true false = refl
      cases true false d = refl
      cases false b d = refl

  lost_once : AreDisjoint (has_right (lost_rights r m)) (has_right (lost_rights (bit_and r m) m'))
  lost_once k q e =
      lost_second k q ∙ cases (has_right r k) (has_right m k) (has_right m' k)
      (sym (has_lost r m k p q) ∙ e)
    where
      cases : (a b d : Bool) → (a && not b) ≡ true → ((a && b) && not d) ≡ false
      cases true true d e' = absurd (false≢true e')
      cases true false d e' = refl
      cases false b d e' = refl

-- what the mask of every right but k loses: right k, where it is held
lost_one : (r k j : ℕ) → k < 8 → j < 8
    → has_right (lost_rights r (all_rights_but k)) j ≡ (has_right r k && eqb j k)
lost_one r k j p q =
    has_lost r (all_rights_but k) j (omega arith) q
    ∙ ap (λ b. has_right r j && not b) (has_all_but k j p q)
    ∙ pick (eqb j k) refl
  where
    neither : (a b : Bool) → (a && false) ≡ (b && false)
    neither true true = refl
    neither true false = refl
    neither false true = refl
    neither false false = refl

    pick : (b : Bool) → eqb j k ≡ b → (has_right r j && not (not b)) ≡ (has_right r k && b)
    pick true e = ap (λ x. has_right r x && true) (eqb-true j k e)
    pick false e = neither (has_right r j) (has_right r k)

-- a mask that loses nothing keeps the rights as they are
and_kept : (r m : ℕ) → r < 256 → m < 256 → ((k : ℕ) → k < 8 → has_right (lost_rights r m) k ≡ false)
    → bit_and r m ≡ r
and_kept r m h q none-lost =
    same_byte (bit_and r m) r (and_byte r m h) h
    (λ k p. has_and r m k ∙ cases (has_right r k) (has_right m k)
    (sym (has_lost r m k q p) ∙ none-lost k p))
  where
    cases : (a b : Bool) → (a && not b) ≡ false → (a && b) ≡ a
    cases true true e = refl
    cases true false e = sym e
    cases false b e = refl

-- the mask of every right but those of a list
abbrev mask_but : List ℕ → ℕ
mask_but [] = 255
mask_but (k ∷ ks) = bit_and (all_rights_but k) (mask_but ks)

mask_byte : (ks : List ℕ) → mask_but ks < 256
mask_byte [] = omega arith
mask_byte (k ∷ ks) = and_byte (all_rights_but k) (mask_but ks) (omega arith)

mask_outside : (m : ℕ) → m < 256 → mask_but (rights_outside m) ≡ m
unfolding rights_outside
mask_outside m h =
    eqb-true (mask_but (rights_outside m)) m
    (at_each (λ a. eqb (mask_but (rights_outside a)) a) 256 refl m h)

outside_are_rights : (m : ℕ) → AllByRecursion (λ k. k < 8) (rights_outside m)
unfolding rights_outside
outside_are_rights m =
    all_kept_by (lacks_right m) (λ k. k < 8) (0 ∷ 1 ∷ 2 ∷ 3 ∷ 4 ∷ 5 ∷ 6 ∷ 7 ∷ []) (omega arith)

module _ (F : Family) (family : IsCommuting F) where
  -- a check number below n survives being cut to 48 bits
  pub number_six : (v : ℕ) → v < F.modulus → (check_of v).value ≡ v
  number_six v h = mod-eq_of_lt (omega (arith, family.most))

  thin_below_lem : (c : Capability) (m : ℕ) → check_number c < F.modulus
      → thin F.function (check_number c) (has_right (lost_rights c.rights.bits m)) < F.modulus
  thin_below_lem c m h =
      (thin_laws F family).stays_below (check_number c) (has_right (lost_rights c.rights.bits m)) h

  pub kept_number : (c : Capability) (m : ℕ) → check_number c < F.modulus
      → check_number (within_mask F.function c m)
      ≡ thin F.function (check_number c) (has_right (lost_rights c.rights.bits m))
  kept_number c m h =
      number_six (thin F.function (check_number c) (has_right (lost_rights c.rights.bits m)))
      (thin_below_lem c m h)

  pub kept_below : (c : Capability) (m : ℕ) → check_number c < F.modulus
      → check_number (within_mask F.function c m) < F.modulus
  kept_below c m h = rw (kept_number c m h) (thin_below_lem c m h)

  pub kept_whole : (c : Capability) (m : ℕ) → c.rights.bits < 256 → check_number c < F.modulus
      → Whole (within_mask F.function c m)
  kept_whole c m h p = record { byte = and_byte c.rights.bits m h }

  -- two thinnings are one
  pub kept_kept : (c : Capability) (m m' : ℕ) → m < 256 → m' < 256 → check_number c < F.modulus
      → within_mask F.function (within_mask F.function c m) m'
      ≡ within_mask F.function c (bit_and m m')
  kept_kept c m m' q q' p =
      let r : ℕ = c.rights.bits in
      let v : ℕ = check_number c in
      let e : thin F.function (check_number (within_mask F.function c m))
      (has_right (lost_rights (bit_and r m) m'))
      ≡ thin F.function v (has_right (lost_rights r (bit_and m m'))) =
      ap (λ x. thin F.function x (has_right (lost_rights (bit_and r m) m'))) (kept_number c m p)
      ∙ (thin_laws F family).by_both v (has_right (lost_rights r m))
      (has_right (lost_rights (bit_and r m) m')) p
      (lost_once r m m' q q')
      ∙ thin_like F.function (union (has_right (lost_rights r m))
      (has_right (lost_rights (bit_and r m) m')))
      (has_right (lost_rights r (bit_and m m'))) v (lost_both r m m' q q') in
      ap (λ x. with_rights c x
      (thin F.function (check_number (within_mask F.function c m))
      (has_right (lost_rights (bit_and r m) m'))))
      (and_assoc m' r m)
      ∙ ap (with_rights c (bit_and r (bit_and m m'))) e

  -- a mask within another one: thinned to the wider one and then to what the narrower one leaves is
  -- thinned to the narrower one
  pub kept_again : (c : Capability) (m m' : ℕ) → m < 256 → m' < 256 → check_number c < F.modulus
      → ((k : ℕ) → k < 8 → has_right m' k ≡ true → has_right m k ≡ true)
      → within_mask F.function (within_mask F.function c m)
      (within_mask F.function c m').rights.bits
      ≡ within_mask F.function c m'
  kept_again c m m' q q' p within =
      let r : ℕ = c.rights.bits in
      let left : ℕ = bit_and r m' in
      let inside : bit_and m' m ≡ m' =
      and_kept m' m q' q (λ k h. has_lost m' m k q h
      ∙ none-lost (has_right m' k) (has_right m k) (within k h)) in
      kept_kept c m left q (omega (arith, and_le_r r m')) p
      ∙ kept_like F.function c (bit_and m left) m' (and_byte m left q) q'
      (ap (bit_and r) (and_comm m left ∙ and_assoc m r m' ∙ ap (bit_and r) inside)
      ∙ sym (and_assoc m' r r) ∙ ap (λ x. bit_and x m') (and_self r))
    where
      none-lost : (a b : Bool) → (a ≡ true → b ≡ true) → (a && not b) ≡ false
      none-lost true b e = ap not (e refl)
      none-lost false b e = refl

  -- a mask that loses nothing keeps the capability as it is
  kept_all : (c : Capability) (m : ℕ) → Whole c → m < 256
      → ((k : ℕ) → k < 8 → has_right (lost_rights c.rights.bits m) k ≡ false)
      → within_mask F.function c m ≡ c
  kept_all c m w q none-lost =
      let v : ℕ = check_number c in
      let rights : bit_and c.rights.bits m ≡ c.rights.bits =
      and_kept c.rights.bits m w.byte q none-lost in
      let check : check_of (thin F.function v (has_right (lost_rights c.rights.bits m))) ≡ c.check =
      ap check_of (thin_like F.function (has_right (lost_rights c.rights.bits m)) no_rights v
      none-lost
      ∙ thin_empty F.function v)
      ∙ check_again c.check in
      λ i. record {
        port = c.port;
        object = c.object;
        rights = record { bits = rights i };
        check =
            check i;
      }

  -- every drop is a thinning
  drop_thins : (c : Capability) (k : ℕ) → Whole c → k < 8
      → without_right F.function c k ≡ within_mask F.function c (all_rights_but k)
  drop_thins c k w p = go (has_right c.rights.bits k) refl
    where
      go : (b : Bool) → has_right c.rights.bits k ≡ b
          → cond b (with_rights c (bit_and c.rights.bits (all_rights_but k))
          (F.function k (check_number c))) c ≡ within_mask F.function c (all_rights_but k)
      go true e =
          ap (with_rights c (bit_and c.rights.bits (all_rights_but k)))
          (sym (thin_like F.function (has_right (lost_rights c.rights.bits (all_rights_but k)))
          (λ j. eqb j k)
          (check_number c) (λ j q. lost_one c.rights.bits k j p q ∙ ap (λ x. x && eqb j k) e)
          ∙ thin_single F.function (check_number c) k p))
      go false e =
          sym (kept_all c (all_rights_but k) w (omega arith)
          (λ j q. lost_one c.rights.bits k j p q ∙ ap (λ x. x && eqb j k) e))

  pub thinned_ok : (c : Capability) (m : ℕ) → check_number c < F.modulus
      → thin_to F c m ≡ Ok (within_mask F.function c m)
  thinned_ok c m h =
      ap (λ b. unless b CheckTooLarge (Ok (within_mask F.function c m)))
      (lt-ltb (check_number c) F.modulus h)

  thinned_err : (c : Capability) (m : ℕ) → F.modulus ≤ check_number c
      → thin_to F c m ≡ Err CheckTooLarge
  thinned_err c m h =
      ap (λ b. unless b CheckTooLarge (Ok (within_mask F.function c m)))
      (le-ltb (check_number c) F.modulus h)

  -- what thins after a thinning thins to what both keep
  after : (c : Capability) (m m' : ℕ) (next : Capability → Result Capability HolderRefusal)
      → m < 256 → m' < 256
      → (check_number c < F.modulus
      → next (within_mask F.function c m) ≡ thin_to F (within_mask F.function c m) m')
      → and_then (thin_to F c m) next ≡ thin_to F c (bit_and m m')
  after c m m' next q q' e = elim (cases_lt (check_number c) F.modulus) [
    | inl p ↦
        ap (λ x. and_then x next) (thinned_ok c m p) ∙ e p
        ∙ thinned_ok (within_mask F.function c m) m' (kept_below c m p)
        ∙ ap Ok (kept_kept c m m' q q' p) ∙ sym (thinned_ok c (bit_and m m') p)
    | inr p ↦ ap (λ x. and_then x next) (thinned_err c m p) ∙ sym (thinned_err c (bit_and m m') p)
  ]

  pub dropped_thins : (c : Capability) (k : ℕ) → Whole c → k < 8
      → drop_right F c k ≡ thin_to F c (all_rights_but k)
  dropped_thins c k w p =
      ap (λ b. unless b NoSuchRight
      (unless (ltb (check_number c) F.modulus) CheckTooLarge (Ok (without_right F.function c k))))
      (lt-ltb k 8 p)
      ∙ ap (λ x. unless (ltb (check_number c) F.modulus) CheckTooLarge (Ok x)) (drop_thins c k w p)

  -- the laws
  pub twice_is_once : (c : Capability) (m : ℕ) → m < 256 → TwiceIsOnce F c m
  twice_is_once c m q = λ m' q'. after c m m' (λ d. thin_to F d m') q q' (λ _. refl)

  two_drops : (c : Capability) (j k : ℕ) → Whole c → j < 8 → k < 8
      → and_then (drop_right F c j) (λ d. drop_right F d k)
      ≡ thin_to F c (bit_and (all_rights_but j) (all_rights_but k))
  two_drops c j k w p q =
      ap (λ x. and_then x (λ d. drop_right F d k)) (dropped_thins c j w p)
      ∙ after c (all_rights_but j) (all_rights_but k) (λ d. drop_right F d k) (omega arith)
      (omega arith)
      (λ h. dropped_thins (within_mask F.function c (all_rights_but j)) k
      (kept_whole c (all_rights_but j) w.byte h)
      q)

  pub any_order : (c : Capability) (k : ℕ) → Whole c → AnyOrder F c k
  any_order c k w =
      λ j p q. two_drops c k j w q p
      ∙ ap (thin_to F c) (and_comm (all_rights_but k) (all_rights_but j))
      ∙ sym (two_drops c j k w p q)

  each_dropped : (ks : List ℕ) (c : Capability) → Whole c → AllByRecursion (λ k. k < 8) ks
      → check_number c < F.modulus → drop_each F c ks ≡ thin_to F c (mask_but ks)
  each_dropped [] c w p h =
      sym (thinned_ok c 255 h ∙ ap Ok
      (kept_all c 255 w (omega arith)
      (λ k q. has_lost c.rights.bits 255 k (omega arith) q
      ∙ full (has_right c.rights.bits k) (has_right 255 k)
      (at_each (λ j. has_right 255 j) 8 refl k q))))
    where
      full : (a b : Bool) → b ≡ true → (a && not b) ≡ false
      full true true e = refl
      full true false e = sym e
      full false b e = refl
  each_dropped (k ∷ ks) c w p h =
      ap (λ x. and_then x (λ d. drop_each F d ks)) (dropped_thins c k w p.0)
      ∙ after c (all_rights_but k) (mask_but ks) (λ d. drop_each F d ks) (omega arith)
      (mask_byte ks)
      (λ q. each_dropped ks (within_mask F.function c (all_rights_but k))
      (kept_whole c (all_rights_but k) w.byte q) p.1
      (kept_below c (all_rights_but k) q))

  pub one_by_one : (c : Capability) (m : ℕ) → Whole c → m < 256 → OneByOne F c m
  one_by_one c m w q =
      λ h. ap (thin_to F c) (sym (mask_outside m q))
      ∙ sym (each_dropped (rights_outside m) c w (outside_are_rights m) h)

  -- a genuine check, put through the functions of the lost rights, is the genuine check for those
  -- that are left
  pub kept_genuine : (c : Capability) (m s : ℕ) → m < 256 → s < F.modulus → IsGenuine F.function s c
      → IsGenuine F.function s (within_mask F.function c m)
  kept_genuine c m s q h e =
      let r : ℕ = c.rights.bits in
      let below : check_number c < F.modulus =
      rw e ((thin_laws F family).stays_below s (lacks_right r) h) in
      kept_number c m below
      ∙ ap (λ x. thin F.function x (has_right (lost_rights r m))) e
      ∙ (thin_laws F family).by_both s (lacks_right r) (has_right (lost_rights r m)) h
      (λ k p t. has_lost r m k q p ∙ held (has_right r k) (has_right m k) t)
      ∙ thin_like F.function (union (lacks_right r) (has_right (lost_rights r m)))
      (lacks_right (bit_and r m)) s
      (λ k p. ap (λ b. lacks_right r k || b) (has_lost r m k q p)
      ∙ left (has_right r k) (has_right m k)
      ∙ ap not (sym (has_and r m k)))
    where
      held : (a b : Bool) → not a ≡ true → (a && not b) ≡ false
      held true b t = absurd (false≢true t)
      held false b t = refl

      left : (a b : Bool) → (not a || (a && not b)) ≡ not (a && b)
      left true b = refl
      left false b = refl

  pub thinned_genuine : (c : Capability) (m : ℕ) → m < 256 → StaysGenuine F c (thin_to F c m)
  thinned_genuine c m q = λ s h e. elim (cases_lt (check_number c) F.modulus) [
    | inl p ↦ subst (λ r. IfOk r (IsGenuine F.function s)) (sym (thinned_ok c m p))
        (kept_genuine c m s q h e)
    | inr p ↦ subst (λ r. IfOk r (IsGenuine F.function s)) (sym (thinned_err c m p)) tt
  ]

  pub dropped_genuine : (c : Capability) (k : ℕ) → Whole c → StaysGenuine F c (drop_right F c k)
  dropped_genuine c k w = λ s h e. elim (cases_lt k 8) [
    | inl p ↦ subst (λ r. IfOk r (IsGenuine F.function s)) (sym (dropped_thins c k w p))
        (thinned_genuine c (all_rights_but k) (omega arith) s h e)
    | inr p ↦
        subst (λ b. IfOk (unless b NoSuchRight
        (unless (ltb (check_number c) F.modulus) CheckTooLarge (Ok (without_right F.function c k))))
        (IsGenuine F.function s))
        (sym (le-ltb k 8 p)) tt
  ]
