-- The trail of a look-up or walk through directories.
use Rattle.std.proofs.Common.{◌≡◌, ℕ, ◌+◌, ◌<◌, List, [], ◌∷◌, Some, Ok, sym, ap, ◌∙◌, subst}
use Rattle.std.specs.List.{slice_get}
use Rattle.std.specs.Option.{option_map}
use Rattle.refusal.specs.Chains.{and_then}
use Rattle.refusal.proofs.ChainFacts.{same_ok, and_then_ok}
use Rattle.holder.specs.Dropping.{check_number}
use Rattle.holder.specs.declared.capability.Capability.{Capability}
use Rattle.memory.specs.Names.{name_of}
use Rattle.memory.specs.declared.row.Row.{Row}
use Rattle.secret.specs.declared.secret.Secret.{Secret}
use Rattle.admission.specs.Objects.{target_at, object_number}
use Rattle.admission.specs.declared.target.Target.{Target}
use Rattle.admission.proofs.JudgedFacts.{judged_low}
use Rattle.store.specs.Rows.{rows_of}
use Rattle.store.specs.LookUp.{shown_of, lookup_at, lookup_by, walk_end}
use Rattle.runs.specs.Views.{a_directory, view_of, view_at}
use Rattle.runs.proofs.Looks.{found_row, look_at}
use Rattle.store.specs.State.{State}

-- a trail through directories: the rows of each name in turn, and what the last one shows
module _ (s : State) where
  -- a row that a capability leads to under a name
  pub record FollowsRow (c : Capability) (bs : List ℕ) (row : Row) : Type 0 where
    pub secret : Secret
    pub rows : List Row
    pub directory : view_at s (object_number c) ≡ Some (a_directory secret rows)
    pub index : ℕ
    pub there : slice_get rows index ≡ Some row
    pub named : name_of row ≡ bs
    pub low : check_number row.capability < s.kept.family.modulus

  abbrev pub Trail : Capability → List (List ℕ) → Capability → Type 0
  Trail c [] x = c ≡ x
  Trail c (bs ∷ names) x =
      (row : Row) × (FollowsRow c bs row × Trail (shown_of s c.rights.bits row) names x)

  leads_to : (c : Capability) (bs : List ℕ) (place : ℕ) (t : Target) (x : Capability)
      → target_at s.memory (object_number c) ≡ Some t → lookup_at s c.rights.bits bs place t ≡ Ok x
      → (row : Row) × (FollowsRow c bs row × (shown_of s c.rights.bits row ≡ x))
  leads_to c bs place t x object e =
      let found = found_row s c.rights.bits bs place t x e in
      let here = found.1.0 in (
        found.0,
        (
          record {
            secret = here.found.secret;
            rows = rows_of s.memory here.spot here.found;
            directory = ap (option_map (view_of s)) (object ∙ ap Some here.directory);
            index = here.index;
            there = here.there;
            named = here.named;
            low =
                judged_low s.kept.family s.kept.port.bytes s.kept.own s.memory found.0.capability
                here.target here.accepted;
          },
          found.1.1,
        ),
      )

  -- a walk is a trail of all its names
  trail_walked : (names : List (List ℕ)) (c : Capability) (place : ℕ) (x : Capability)
      → walk_end s c names place ≡ Ok x → Trail c names x
  trail_walked [] c place x e = same_ok e
  trail_walked (bs ∷ names) c place x e =
      let made = and_then_ok (lookup_by s c bs place) (λ y. walk_end s y names (place + 1)) x e in
      let at = look_at s c bs place made.0 made.1.0 in
      let leads = leads_to c bs place at.0 made.0 at.1.0 at.1.1 in (
        leads.0,
        (
          leads.1.0,
          subst (λ y. Trail y names x) (sym leads.1.1)
              (trail_walked names made.0 (place + 1) x made.1.1),
        ),
      )

  -- also from where the first capability is admitted
  pub trail_on : (bs : List ℕ) (names : List (List ℕ)) (c : Capability) (place : ℕ) (t : Target)
      (x : Capability) → target_at s.memory (object_number c) ≡ Some t
      → and_then (lookup_at s c.rights.bits bs place t) (λ y. walk_end s y names (place + 1)) ≡ Ok x
      → Trail c (bs ∷ names) x
  trail_on bs names c place t x object e =
      let made =
      and_then_ok (lookup_at s c.rights.bits bs place t) (λ y. walk_end s y names (place + 1)) x
      e in
      let leads = leads_to c bs place t made.0 object made.1.0 in (
        leads.0,
        (
          leads.1.0,
          subst (λ y. Trail y names x) (sym leads.1.1)
              (trail_walked names made.0 (place + 1) x made.1.1),
        ),
      )
