-- A directory given another record and other rows: memory stays in order, and only that directory
-- is seen otherwise.
use Rattle.std.proofs.Common.{◌≡◌, ℕ, ◌+◌, ◌*◌, ◌<◌, ◌≤◌, true, List, length, take, Some, sym, refl, subst, arith}
use Rattle.std.specs.Option.{option_map}
use Rattle.std.specs.List.{slice_get}
use Rattle.table.specs.Table.{live_or_none}
use Rattle.table.proofs.Reading.{nth_some}
use Rattle.memory.specs.Words.{AreRowsSound}
use Rattle.memory.specs.declared.directory_record.DirectoryRecord.{DirectoryRecord}
use Rattle.memory.specs.declared.row.Row.{Row}
use Rattle.admission.specs.declared.target.Target.TheVariants.{Directory}
use Rattle.store.specs.Parts.{with_part}
use Rattle.store.specs.Rows.{rows_of, with_rows}
use Rattle.store.specs.Order.{IsInOrder}
use Rattle.store.proofs.Apart.{all_nth, whole}
use Rattle.store.proofs.Admitting.{sizes_same}
use Rattle.runs.specs.Views.{view_of}
use Rattle.runs.proofs.Overwriting.{length_overwritten, first_written, part_outside}
use Rattle.runs.proofs.Replaced.{OthersStay, directory_replaced, over}
use Rattle.runs.proofs.Sighted.{Turned, directory_turned}
use Rattle.store.specs.State.{State}
use Rattle.holder.proofs.RoundTrips.{at}

module _ (s : State) (h : IsInOrder s) (p : ℕ) (old new : DirectoryRecord) (rows : List Row)
    (here : slice_get s.memory.directories p ≡ Some old) (short : length rows ≤ 16) where
  place : p < length s.memory.directories
  place = nth_some s.memory.directories p old here

  -- the sixteen rows of a directory are there
  sixteen : (q : ℕ) (d : DirectoryRecord) → slice_get s.memory.directories q ≡ Some d
      → 16 * q + 16 ≤ length s.memory.rows
  sixteen q d at =
      omega (
        arith,
        nth_some s.memory.directories q d at,
        (sizes_same s h.sizes).1,
        (sizes_same s h.sizes).2,
      )

  fits : 16 * p + length rows ≤ length s.memory.rows
  fits = omega (arith, sixteen p old here)

  others_stay : OthersStay s.memory p (with_part s.memory.rows (16 * p) rows)
  others_stay q d other at live =
      let few : d.count ≤ 16 = all_nth _ s.memory.directories q d (whole s h.sound).counts at in
      part_outside s.memory.rows (16 * p) rows fits (16 * q) d.count (omega (arith, sixteen q d at))
      (λ b i j. omega arith)

  -- no other object is seen otherwise
  pub relisted_turned : Turned s (over s.kept (with_rows s.memory p new rows))
      (1 + length s.memory.files + p)
      (option_map (λ d. view_of (over s.kept (with_rows s.memory p new rows)) (Directory p d))
      (live_or_none (λ d. d.live) (Some new)))
  relisted_turned =
      directory_turned s s.kept refl p new (with_part s.memory.rows (16 * p) rows) place others_stay

  module _ (few : new.count ≤ length rows) where
    -- the directory has the rows written, as many as it counts
    pub relisted_seen : rows_of (with_rows s.memory p new rows) p new ≡ take new.count rows
    relisted_seen = first_written s.memory.rows (16 * p) rows fits new.count few

    -- memory stays in order, where the secret of the new record is below the modulus and its rows
    -- are sound
    pub relisted_in_order : (new.live ≡ true → new.secret.value < s.kept.family.modulus)
        → (new.live ≡ true → AreRowsSound s.kept.family.modulus s.kept.port.bytes
        (take new.count rows)) → IsInOrder (over s.kept (with_rows s.memory p new rows))
    relisted_in_order below sound =
        directory_replaced s h p new (with_part s.memory.rows (16 * p) rows) place
        (length_overwritten s.memory.rows (16 * p) rows fits) below (omega arith) others_stay
        (λ live. subst (AreRowsSound s.kept.family.modulus s.kept.port.bytes) (sym relisted_seen)
        (sound live))
