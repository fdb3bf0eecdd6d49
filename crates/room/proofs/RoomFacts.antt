-- Rooms of zeros.
use Rattle.std.proofs.Common.{◌≡◌, ℕ, List, length, replicate, sym, ap, ◌∙◌}
use Rattle.std.proofs.lemmas.List.{length-replicate}
use Rattle.memory.specs.Records.{zero_directory, zero_file}
use Rattle.memory.specs.Soundness.{Content}
use Rattle.memory.specs.Wiped.{zeros_like, zero_row}
use Rattle.room.specs.Rooms.{IsAllZero}

-- a list of zeros is filled with them again
again : {A : Type 0} (zero : A) (xs : List A) (n : ℕ) → xs ≡ replicate n zero
    → replicate (length xs) zero ≡ xs
again zero xs n filled =
    ap (λ k. replicate k zero) (ap length filled ∙ length-replicate n zero) ∙ sym filled

pub all_zero : (m : Content) (files directories rows area : ℕ) → m.files ≡ replicate files zero_file
    → m.directories ≡ replicate directories zero_directory
    → m.rows ≡ replicate rows zero_row → m.area ≡ replicate area 0 → IsAllZero m
all_zero m files directories rows area f d r a =
    ap (λ l. record (zeros_like m) { files = l }) (again zero_file m.files files f)
    ∙ ap (λ l. record (zeros_like m) {
      files = m.files;
      directories =
          l;
    }) (again zero_directory m.directories directories d)
    ∙ ap (λ l. record (zeros_like m) {
      files = m.files;
      directories = m.directories;
      rows =
          l;
    }) (again zero_row m.rows rows r)
    ∙ ap (λ l. record m { area = l }) (again 0 m.area area a)
