-- Paths: names parted by slashes, of which byte 47 is one.
use Rattle.std.specs.Prelude.{◌≡◌, ◌≢◌, ℕ, ◌+◌, ◌<◌, Bool, ◌&&◌, List, [], length, drop, option_map, position, Some, None, Option, ◌==◌, nat_le}
use Rattle.std.specs.List.{AllByRecursion, before_first, join_with_byte, list_all, slice_split}
use Rattle.memory.specs.Names.{is_lawful_name}

-- the parts between slashes, in order, empty ones too: the empty path is one empty name
abbrev pub names_in : List ℕ → List (List ℕ)
names_in path = slice_split (λ b. b == 47) path

-- what stands before the first slash, or everything
abbrev pub first_name : List ℕ → List ℕ
first_name path = before_first (λ b. b == 47) path

-- what stands behind the first slash, if there is one
abbrev pub rest_of_path : List ℕ → Option (List ℕ)
rest_of_path path = option_map (λ slash. drop (slash + 1) path) (position (λ b. b == 47) path)

-- the names in what stands behind the first slash
abbrev pub names_in_rest : Option (List ℕ) → List (List ℕ)
names_in_rest None = []
names_in_rest (Some rest) = names_in rest

-- names joined by single slashes
abbrev pub path_of : List (List ℕ) → List ℕ
path_of names = join_with_byte 47 names

-- the same in words: one name or more, no name with a slash in it, and joined by single slashes
-- they give back the path
pub record IsPartedInto (path : List ℕ) (names : List (List ℕ)) : Type 0 where
  pub some : 0 < length names
  pub slashless : AllByRecursion (λ name. AllByRecursion (λ b. b ≢ 47) name) names
  pub back : path_of names ≡ path

-- 16 names at most, each lawful
abbrev pub is_lawful_path : List ℕ → Bool
is_lawful_path path = nat_le (length (names_in path)) 16 && list_all is_lawful_name (names_in path)
