-- Paths in the order of first sight. The number of a path is its place.
use Rattle.std.specs.Prelude.{ℕ, List, [], ◌∷◌, ◌++◌, fold, if◌then◌else◌, map}
use Rattle.std.specs.List.{list_any, position_or_len}
use Rattle.std.specs.Str.{bytes_eq}

-- the known paths once a path is seen: one that is new goes last
abbrev pub with_path : List (List ℕ) → List ℕ → List (List ℕ)
with_path known path = if list_any (bytes_eq path) known then known else known ++ path ∷ []

-- the known paths once these are seen, one after another
abbrev pub with_paths : List (List ℕ) → List (List ℕ) → List (List ℕ)
with_paths known paths = fold with_path known paths

abbrev pub number_in : List (List ℕ) → List ℕ → ℕ
number_in known path = position_or_len (bytes_eq path) known

abbrev pub numbers_in : List (List ℕ) → List (List ℕ) → List ℕ
numbers_in known paths = map (number_in known) paths
