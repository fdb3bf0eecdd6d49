-- What a request asks of the capability presented: the kind of its object, and one right of a set.
use Rattle.std.specs.Prelude.{ℕ, Bool, true, false, ◌&&◌, [], ◌∷◌}
use Rattle.std.specs.List.{list_any}
use Rattle.family.specs.Rights.{has_right}
use Rattle.admission.specs.declared.need.Kinds.{Kinds}
use Rattle.admission.specs.declared.target.Target.{Target}
use Rattle.admission.specs.declared.target.Target.TheVariants.{Itself, File, Directory}

abbrev pub only_store : Kinds
only_store = record { store = true; files = false; directories = false }

abbrev pub only_files : Kinds
only_files = record { store = false; files = true; directories = false }

abbrev pub only_directories : Kinds
only_directories = record { store = false; files = false; directories = true }

-- an object of this kind may be asked so
abbrev pub fits_kinds : Kinds → Target → Bool
fits_kinds kinds Itself = kinds.store
fits_kinds kinds (File p r) = kinds.files
fits_kinds kinds (Directory p d) = kinds.directories

-- the two sets, each a byte, have a right in common
unfoldable pub have_common_right : ℕ → ℕ → Bool
have_common_right held asked =
    list_any (λ k. has_right held k && has_right asked k) (0 ∷ 1 ∷ 2 ∷ 3 ∷ 4 ∷ 5 ∷ 6 ∷ 7 ∷ [])
