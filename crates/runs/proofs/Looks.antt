-- Look-ups and walks: what they find is accepted, and what they refuse comes late.
use Rattle.std.proofs.Common.{◌≡◌, ℕ, ◌+◌, ◌<◌, List, [], ◌∷◌, length, IfErr, Some, Ok, Err, Result, sym, refl, ap, ◌∙◌, subst, arith}
use Rattle.std.specs.List.{slice_get}
use Rattle.std.proofs.lemmas.Option.{get_or_from_slice_get}
use Rattle.refusal.specs.Chains.{and_then, refused_as}
use Rattle.refusal.proofs.ChainFacts.{same_ok, and_then_ok, refused_as_ok, refused_then, refused_told}
use Rattle.family.specs.Commuting.{IsCommuting}
use Rattle.holder.specs.Dropping.{within_mask}
use Rattle.holder.specs.declared.capability.Capability.{Capability}
use Rattle.memory.specs.Names.{name_of}
use Rattle.memory.specs.declared.directory_record.DirectoryRecord.{DirectoryRecord}
use Rattle.memory.specs.Wiped.{zero_row}
use Rattle.memory.specs.declared.row.Row.{Row}
use Rattle.admission.specs.Admission.{authorized_target}
use Rattle.admission.specs.Objects.{target_at, secret_of, object_number}
use Rattle.admission.specs.declared.target.Target.{Target}
use Rattle.admission.specs.declared.target.Target.TheVariants.{Itself, File, Directory}
use Rattle.admission.proofs.JudgedFacts.{judged_at, judged_kept}
use Rattle.rows.specs.Search.{place_of_name}
use Rattle.rows.specs.Seen.{seen_mask}
use Rattle.rows.proofs.RowFacts.{searched_found}
use Rattle.rows.proofs.SeenFacts.{seen_bound}
use Rattle.store.specs.Rows.{wanted_row, row_at, rows_of}
use Rattle.store.specs.Kept.{Kept}
use Rattle.store.specs.Inside.{admitted_at}
use Rattle.store.specs.LookUp.{shown_of, shown_now, lookup_at, lookup_by, walk_end, walk_end_at}
use Rattle.store.specs.Rules.{to_see}
use Rattle.store.specs.Order.{IsInOrder}
use Rattle.store.specs.declared.error.StoreRefusal.{StoreRefusal}
use Rattle.store.specs.declared.error.StoreRefusal.TheVariants.{Denied, RowNotAccepted}
use Rattle.store.proofs.Admitting.{permitted_same}
use Rattle.store.proofs.Apart.{all_nth, whole}
use Rattle.store.proofs.LookFacts.{gate_first}
use Rattle.store.proofs.Standing.{Stands, located_stands}
use Rattle.runs.proofs.Entered.{row_in_at}
use Rattle.runs.proofs.Lateness.{Late, judged_in, looked_late, permitted_late}
use Rattle.store.specs.State.{State}

-- the store's family is lawful, and its own secret below the modulus
pub record LawfulStore (k : Kept) : Type 0 where
  pub family : IsCommuting k.family
  pub own_below : k.own.value < k.family.modulus

-- a row of a directory, found by its name, with a capability that is accepted; whoever looks there
-- is shown it by his rights
pub record FoundRow (s : State) (t : Target) (bs : List ℕ) (place : ℕ) (row : Row) : Type 0 where
  pub spot : ℕ
  pub found : DirectoryRecord
  pub directory : t ≡ Directory spot found
  pub index : ℕ
  pub there : slice_get (rows_of s.memory spot found) index ≡ Some row
  pub named : name_of row ≡ bs
  pub target : Target
  pub accepted : judged_in s row.capability ≡ Ok target
  pub again : (rights : ℕ) → lookup_at s rights bs place t ≡ Ok (shown_of s rights row)

module _ (s : State) where
  -- what is looked up comes from such a row
  pub found_row : (rights : ℕ) (bs : List ℕ) (place : ℕ) (t : Target) (x : Capability)
      → lookup_at s rights bs place t ≡ Ok x
      → (row : Row) × (FoundRow s t bs place row × (shown_of s rights row ≡ x))
  found_row rights bs place t x e =
      let made =
      and_then_ok (wanted_row s.memory (place_of_name bs) place t)
      (λ at. shown_now s rights (row_at s.memory at) place) x e in
      let at = row_in_at s (place_of_name bs) place t made.0 made.1.0 in
      let here = searched_found bs (rows_of s.memory at.0 at.1.0) at.1.1.0 at.1.1.1.1.1 in
      let row : Row = here.0 in
      let same : row_at s.memory made.0 ≡ row =
      ap (row_at s.memory) at.1.1.1.1.0
      ∙ get_or_from_slice_get (rows_of s.memory at.0 at.1.0) at.1.1.0 row zero_row here.1.0 in
      let shows =
      and_then_ok (refused_as (λ _. RowNotAccepted place)
      (judged_in s (row_at s.memory made.0).capability))
      (λ _. Ok (shown_of s rights (row_at s.memory made.0))) x made.1.1 in
      let accepts : judged_in s row.capability ≡ Ok shows.0 =
      ap (λ r. judged_in s r.capability) (sym same)
      ∙ refused_as_ok (λ _. RowNotAccepted place) (judged_in s (row_at s.memory made.0).capability)
      shows.0 shows.1.0 in (
        row,
        (
          record {
            spot = at.0;
            found = at.1.0;
            directory = at.1.1.1.0;
            index = at.1.1.0;
            there = here.1.0;
            named = here.1.1;
            target = shows.0;
            accepted = accepts;
            again = λ others.
                ap (λ r. and_then r (λ at. shown_now s others (row_at s.memory at) place)) made.1.0
                ∙ ap (λ r. shown_now s others r place) same
                ∙ ap (λ r. and_then (refused_as (λ _. RowNotAccepted place) r)
                (λ _. Ok (shown_of s others row))) accepts;
          },
          ap (shown_of s rights) (sym same) ∙ same_ok shows.1.1,
        ),
      )

  -- a look-up is admitted to a directory, and looks there
  pub look_at : (c : Capability) (bs : List ℕ) (place : ℕ) (x : Capability)
      → lookup_by s c bs place ≡ Ok x
      → (t : Target) × ((target_at s.memory (object_number c) ≡ Some t)
      × (lookup_at s c.rights.bits bs place t ≡ Ok x))
  look_at c bs place x e =
      let admits =
      and_then_ok (admitted_at s to_see c place) (lookup_at s c.rights.bits bs place) x
      (gate_first s c place (lookup_at s c.rights.bits bs place) ∙ e) in
      let judge =
      and_then_ok (judged_in s c) (λ t. authorized_target to_see t c.rights.bits) admits.0
      (refused_as_ok (λ d. Denied d place) _ admits.0 admits.1.0) in
      let same = permitted_same to_see judge.0 admits.0 c.rights.bits judge.1.1 in (
        admits.0,
        (
          judged_at s.kept.family s.kept.port.bytes s.kept.own s.memory c judge.0 judge.1.0
              ∙ ap Some same,
          admits.1.1,
        ),
      )

-- over memory in order, at a lawful store
module _ (s : State) (order : IsInOrder s) (lawful : LawfulStore s.kept) where
  -- every live object has a secret below the modulus
  secret_low : (o : ℕ) (t : Target) → Stands s.memory o t
      → (secret_of s.kept.own t).value < s.kept.family.modulus
  secret_low o Itself stands = lawful.own_below
  secret_low o (File p r) stands =
      all_nth _ s.memory.files p r (whole s order.sound).file_secrets stands.1.0 stands.1.1
  secret_low o (Directory p d) stands =
      all_nth _ s.memory.directories p d (whole s order.sound).directory_secrets stands.1.0
      stands.1.1

  -- what is left of an accepted capability is accepted
  left_accepted : (c : Capability) (t : Target) (mask : ℕ) → mask < 256 → judged_in s c ≡ Ok t
      → judged_in s (within_mask s.kept.family.function c mask) ≡ Ok t
  left_accepted c t mask h e =
      let at = judged_at s.kept.family s.kept.port.bytes s.kept.own s.memory c t e in
      judged_kept s.kept.family s.kept.port.bytes s.kept.own s.memory lawful.family c t mask h
      (secret_low (object_number c) t (located_stands s.memory (object_number c) t at)) e

  -- what a row shows is accepted
  pub shown_accepted : (rights : ℕ) (row : Row) (t : Target) → judged_in s row.capability ≡ Ok t
      → judged_in s (shown_of s rights row) ≡ Ok t
  shown_accepted rights row t e =
      left_accepted row.capability t (seen_mask rights row.masks).bits (seen_bound rights row.masks)
      e

  -- so is what is looked up
  pub looked_accepted : (rights : ℕ) (bs : List ℕ) (place : ℕ) (t : Target) (x : Capability)
      → lookup_at s rights bs place t ≡ Ok x
      → (object : Target) × (judged_in s x ≡ Ok object)
  looked_accepted rights bs place t x e =
      let found = found_row s rights bs place t x e in (
        found.1.0.target,
        ap (judged_in s) (sym found.1.1)
            ∙ shown_accepted rights found.0 found.1.0.target found.1.0.accepted,
      )

  -- refusals of look-ups come late, where the capability is accepted
  look_late : (c : Capability) (bs : List ℕ) (place : ℕ) (t : Target) → judged_in s c ≡ Ok t
      → IfErr (lookup_by s c bs place) Late
  look_late c bs place t e =
      subst (λ r. IfErr r Late) (gate_first s c place (lookup_at s c.rights.bits bs place))
      (refused_then Late (admitted_at s to_see c place) (lookup_at s c.rights.bits bs place)
      (subst (λ r. IfErr (refused_as (λ d. Denied d place)
      (and_then r (λ t. authorized_target to_see t c.rights.bits))) Late) (sym e)
      (refused_told Late (λ d. Denied d place) (authorized_target to_see t c.rights.bits)
      (permitted_late to_see place t c.rights.bits)))
      (λ target. looked_late s c.rights.bits bs place target))

  walked_late : (names : List (List ℕ)) (c : Capability) (place : ℕ) (t : Target)
      → judged_in s c ≡ Ok t → IfErr (walk_end s c names place) Late
  walked_late [] c place t e = tt
  walked_late (bs ∷ names) c place t e =
      by (lookup_by s c bs place) refl (look_late c bs place t e)
      (λ x object q. walked_late names x (place + 1) object q)
    where
      by : (r : Result Capability StoreRefusal) → lookup_by s c bs place ≡ r → IfErr r Late
          → ((x : Capability) (object : Target) → judged_in s x ≡ Ok object
          → IfErr (walk_end s x names (place + 1)) Late)
          → IfErr (and_then r (λ x. walk_end s x names (place + 1))) Late
      by (Err x) q late rest = late
      by (Ok x) q late rest =
          let at = look_at s c bs place x q in
          let next = looked_accepted c.rights.bits bs place at.0 x at.1.1 in
          rest x next.0 next.1

  pub walked_on_late : (rights : ℕ) (names : List (List ℕ)) (place : ℕ) (t : Target)
      → (0 < length names) → IfErr (walk_end_at s rights names place t) Late
  walked_on_late rights [] place t some = absurd (omega arith)
  walked_on_late rights (bs ∷ names) place t some =
      by (lookup_at s rights bs place t) refl (looked_late s rights bs place t)
    where
      by : (r : Result Capability StoreRefusal) → lookup_at s rights bs place t ≡ r → IfErr r Late
          → IfErr (and_then r (λ x. walk_end s x names (place + 1))) Late
      by (Err x) q late = late
      by (Ok x) q late = let next = looked_accepted rights bs place t x q in
          walked_late names x (place + 1) next.0 next.1
