-- What look-ups and walks find with more rights.
use Rattle.std.proofs.Common.{◌≡◌, ℕ, ◌+◌, ◌<◌, true, List, [], ◌∷◌, Ok, sym, refl, ap, ◌∙◌, subst}
use Rattle.std.specs.Int.Bits.{bit_and}
use Rattle.std.proofs.lemmas.Bool.{and_parts, and_from}
use Rattle.refusal.specs.Chains.{and_then, refused_as}
use Rattle.refusal.proofs.ChainFacts.{same_ok, never_ok, and_then_ok, refused_as_ok}
use Rattle.family.specs.Rights.{has_right}
use Rattle.holder.specs.Dropping.{check_number, thin_to}
use Rattle.holder.specs.declared.capability.Capability.{Capability}
use Rattle.holder.proofs.BitFacts.{has_and}
use Rattle.holder.proofs.ThinningFacts.{kept_again, kept_below, thinned_ok}
use Rattle.memory.specs.declared.row.Row.{Row}
use Rattle.admission.specs.Admission.{authorized_target}
use Rattle.admission.specs.declared.error.Denial.{Denial}
use Rattle.admission.specs.declared.target.Target.{Target}
use Rattle.admission.proofs.JudgedFacts.{judged_low}
use Rattle.rows.specs.Seen.{seen_mask}
use Rattle.rows.proofs.SeenFacts.{seen_bound, seen_more}
use Rattle.store.specs.Inside.{admitted_at}
use Rattle.store.specs.LookUp.{shown_of, lookup_at, lookup_by, walk_end, walk_end_at}
use Rattle.store.specs.Rules.{to_see}
use Rattle.store.specs.Order.{IsInOrder}
use Rattle.store.specs.declared.error.StoreRefusal.{StoreRefusal}
use Rattle.store.specs.declared.error.StoreRefusal.TheVariants.{Denied}
use Rattle.runs.specs.Law.{FewerRights}
use Rattle.runs.proofs.Rights.{more_permitted}
use Rattle.runs.proofs.Lateness.{judged_in}
use Rattle.store.proofs.LookFacts.{gate_first}
use Rattle.runs.proofs.Looks.{LawfulStore, found_row, shown_accepted}
use Rattle.store.specs.State.{State}

-- more rights find the same with more rights
module _ (s : State) (order : IsInOrder s) (lawful : LawfulStore s.kept) where
  -- two accepted capabilities for one object, the second with every right of the first
  pub record Wider (c d : Capability) : Type 0 where
    pub target : Target
    pub first : judged_in s c ≡ Ok target
    pub second : judged_in s d ≡ Ok target
    pub fewer : FewerRights c d

  -- and the second thinned to the rights of the first is the first
  pub record Thinner (c d : Capability) : Type 0 where
    pub wider : Wider c d
    pub thins : thin_to s.kept.family d c.rights.bits ≡ Ok c

  -- a row shows the more to more rights
  shown_thinner : (c d : Capability) (row : Row) (t : Target) → FewerRights c d
      → judged_in s row.capability ≡ Ok t
      → Thinner (shown_of s c.rights.bits row) (shown_of s d.rights.bits row)
  shown_thinner c d row t fewer accepts =
      let w = row.capability in
      let a : ℕ = (seen_mask c.rights.bits row.masks).bits in
      let b : ℕ = (seen_mask d.rights.bits row.masks).bits in
      let low : check_number w < s.kept.family.modulus =
      judged_low s.kept.family s.kept.port.bytes s.kept.own s.memory w t accepts in
      let more = seen_more c.rights.bits d.rights.bits row.masks fewer in
      record {
        wider = record {
          target = t;
          first = shown_accepted s order lawful c.rights.bits row t accepts;
          second = shown_accepted s order lawful d.rights.bits row t accepts;
          fewer = λ j h held. both_held w.rights.bits a b j (more j h) held;
        };
        thins =
            thinned_ok s.kept.family lawful.family (shown_of s d.rights.bits row)
            (shown_of s c.rights.bits row).rights.bits
            (kept_below s.kept.family lawful.family w b low)
            ∙ ap Ok (kept_again s.kept.family lawful.family w b a
            (seen_bound d.rights.bits row.masks) (seen_bound c.rights.bits row.masks) low more);
      }
    where
      both_held : (r a b j : ℕ) → (has_right a j ≡ true → has_right b j ≡ true)
          → has_right (bit_and r a) j ≡ true → has_right (bit_and r b) j ≡ true
      both_held r a b j more held =
          let parts = and_parts (has_right r j) (has_right a j) (sym (has_and r a j) ∙ held) in
          has_and r b j ∙ and_from (has_right r j) (has_right b j) parts.0 (more parts.1)

  pub looked_wider : (c d : Capability) (bs : List ℕ) (place : ℕ) (t : Target) (x : Capability)
      → FewerRights c d → lookup_at s c.rights.bits bs place t ≡ Ok x
      → (y : Capability) × ((lookup_at s d.rights.bits bs place t ≡ Ok y) × Thinner x y)
  looked_wider c d bs place t x fewer e =
      let found = found_row s c.rights.bits bs place t x e in
      let row : Row = found.0 in (
        shown_of s d.rights.bits row,
        (
          found.1.0.again d.rights.bits,
          subst (λ z. Thinner z (shown_of s d.rights.bits row)) found.1.1
              (shown_thinner c d row found.1.0.target fewer found.1.0.accepted),
        ),
      )

  -- whoever has more rights may look up where the other may
  look_wider : (c d : Capability) (bs : List ℕ) (place : ℕ) (x : Capability) → Wider c d
      → lookup_by s c bs place ≡ Ok x
      → (y : Capability) × ((lookup_by s d bs place ≡ Ok y) × Thinner x y)
  look_wider c d bs place x w e =
      let told : Denial → StoreRefusal = λ r. Denied r place in
      let admits =
      and_then_ok (admitted_at s to_see c place) (lookup_at s c.rights.bits bs place) x
      (gate_first s c place (lookup_at s c.rights.bits bs place) ∙ e) in
      let permits : authorized_target to_see w.target c.rights.bits ≡ Ok admits.0 =
      sym (ap (λ r. and_then r (λ t. authorized_target to_see t c.rights.bits)) w.first)
      ∙ refused_as_ok told _ admits.0 admits.1.0 in
      let allowed : authorized_target to_see w.target d.rights.bits ≡ Ok admits.0 =
      more_permitted c d w.fewer to_see w.target admits.0 permits in
      let found = looked_wider c d bs place admits.0 x w.fewer admits.1.1 in (
        found.0,
        (
          sym (gate_first s d place (lookup_at s d.rights.bits bs place))
              ∙ ap (λ r. and_then (refused_as told
              (and_then r (λ t. authorized_target to_see t d.rights.bits)))
              (lookup_at s d.rights.bits bs place)) w.second
              ∙ ap (λ r. and_then (refused_as told r) (lookup_at s d.rights.bits bs place)) allowed
              ∙ found.1.0,
          found.1.1,
        ),
      )

  pub walked_wider : (names : List (List ℕ)) (c d : Capability) (place : ℕ) (x : Capability)
      → Thinner c d → walk_end s c names place ≡ Ok x
      → (y : Capability) × ((walk_end s d names place ≡ Ok y) × Thinner x y)
  walked_wider [] c d place x w e = (d, (refl, subst (λ z. Thinner z d) (same_ok e) w))
  walked_wider (bs ∷ names) c d place x w e =
      let made = and_then_ok (lookup_by s c bs place) (λ z. walk_end s z names (place + 1)) x e in
      let first = look_wider c d bs place made.0 w.wider made.1.0 in
      let rest = walked_wider names made.0 first.0 (place + 1) x first.1.1 made.1.1 in (
        rest.0,
        (
          ap (λ r. and_then r (λ z. walk_end s z names (place + 1))) first.1.0
              ∙ rest.1.0,
          rest.1.1,
        ),
      )

  pub walked_on_wider : (names : List (List ℕ)) (c d : Capability) (place : ℕ) (t : Target)
      (x : Capability) → FewerRights c d
      → walk_end_at s c.rights.bits names place t ≡ Ok x
      → (y : Capability) × ((walk_end_at s d.rights.bits names place t ≡ Ok y) × Thinner x y)
  walked_on_wider [] c d place t x fewer e = never_ok _ x e
  walked_on_wider (bs ∷ names) c d place t x fewer e =
      let made =
      and_then_ok (lookup_at s c.rights.bits bs place t) (λ z. walk_end s z names (place + 1)) x
      e in
      let first = looked_wider c d bs place t made.0 fewer made.1.0 in
      let rest = walked_wider names made.0 first.0 (place + 1) x first.1.1 made.1.1 in (
        rest.0,
        (
          ap (λ r. and_then r (λ z. walk_end s z names (place + 1))) first.1.0
              ∙ rest.1.0,
          rest.1.1,
        ),
      )
