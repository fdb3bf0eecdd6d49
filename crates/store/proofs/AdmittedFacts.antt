-- An object that a capability is admitted to: its number, its part of the area, and its rows.
use Rattle.std.proofs.Common.{◌≡◌, ℕ, ◌+◌, ◌^◌, ◌<◌, ◌≤◌, true, IfOk, Ok, Err, Result, sym, ap, ◌∙◌, arith}
use Rattle.holder.specs.declared.capability.Capability.{Capability}
use Rattle.table.proofs.Reading.{nth_some}
use Rattle.admission.specs.declared.target.Target.{Target}
use Rattle.admission.specs.declared.target.Target.TheVariants.{Itself, File, Directory}
use Rattle.admission.specs.declared.need.Need.{Need}
use Rattle.admission.specs.Objects.{object_number}
use Rattle.memory.specs.declared.directory_record.DirectoryRecord.{DirectoryRecord}
use Rattle.store.specs.Inside.{IsAdmitted, IsWithinArea, HasItsRows, HasRows, admitted_at, admitted_by}
use Rattle.store.specs.Kept.{number_of}
use Rattle.store.specs.Order.{IsInOrder}
use Rattle.store.specs.Sizes.{sizes_agree}
use Rattle.store.specs.State.{State, is_sound_for}
use Rattle.store.specs.declared.error.StoreRefusal.{StoreRefusal}
use Rattle.store.specs.declared.rule.Rule.{Rule}
use Rattle.store.proofs.Apart.{all_nth, whole, file_within}
use Rattle.store.proofs.Admitting.{sizes_same, admitted_located, passed}
use Rattle.store.proofs.Standing.{Stands, located_stands}

module _ (s : State) (o : ℕ) where
  standing_within : is_sound_for s ≡ true → (t : Target) → Stands s.memory o t
      → IsWithinArea s.memory t
  standing_within sound Itself e = tt
  standing_within sound (File p r) e = file_within s sound p r e.1.0 e.1.1
  standing_within sound (Directory p d) e = tt

  -- a directory's rows lie among the rows
  standing_listed : IsInOrder s → (t : Target) → Stands s.memory o t → HasItsRows s.memory t
  standing_listed order Itself e = tt
  standing_listed order (File p r) e = tt
  standing_listed order (Directory p d) e =
      let sizes = sizes_same s order.sizes in
      let there = nth_some s.memory.directories p d e.1.0 in
      record {
        few =
            all_nth (λ d. d.count ≤ 16) s.memory.directories p d (whole s order.sound).counts e.1.0;
        within = omega (arith, there, sizes.1, sizes.2);
        there = there;
      }

  -- its number is that by which it is found
  pub standing_number : (t : Target) → Stands s.memory o t → sizes_agree s ≡ true
      → number_of s.kept t ≡ o
  standing_number Itself e fits = sym e
  standing_number (File p r) e fits = sym e.0
  standing_number (Directory p d) e fits = ap (λ n. 1 + n + p) (sym (sizes_same s fits).0) ∙ sym e.0

  pub standing_narrow : (t : Target) → Stands s.memory o t → sizes_agree s ≡ true
      → s.kept.files ≤ 256 → s.kept.directories ≤ 64 → number_of s.kept t < 2 ^ 24
  standing_narrow Itself e fits f d = omega arith
  standing_narrow (File p r) e fits f d =
      omega (arith, (sizes_same s fits).0, nth_some s.memory.files p r e.1.0)
  standing_narrow (Directory p r) e fits f d =
      omega (arith, (sizes_same s fits).1, nth_some s.memory.directories p r e.1.0)

pub admitted_facts : (s : State) (c : Capability) (rule : Rule) (r : Result Target StoreRefusal)
    → r ≡ admitted_by s rule c → IfOk r (IsAdmitted s)
admitted_facts s c rule (Err x) e = tt
admitted_facts s c rule (Ok t) e =
    let at = passed s c rule t (sym e) in
    let stands = located_stands s.memory (object_number c) t at.object in
    record {
      narrow = standing_narrow s (object_number c) t stands at.order.sizes;
      within = standing_within s (object_number c) at.order.sound t stands;
      listed = standing_listed s (object_number c) at.order t stands;
    }

-- the rows of a directory that a capability is admitted to, over memory in order
pub admitted_rows : (s : State) (c : Capability) (need : Need) (place p : ℕ) (d : DirectoryRecord)
    → IsInOrder s
    → admitted_at s need c place ≡ Ok (Directory p d)
    → HasRows s.memory (record { place = p; found = d })
admitted_rows s c need place p d order e =
    standing_listed s (object_number c) order (Directory p d)
    (located_stands s.memory (object_number c) (Directory p d)
    (admitted_located s c need place (Directory p d) e))
