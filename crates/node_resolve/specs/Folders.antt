-- The folders from one outwards.
use Rattle.std.specs.Prelude.{ℕ, zero, suc, Bool, ◌||◌, List, [], ◌∷◌, codes, length, nat_eq}
use Rattle.std.specs.List.{ends_with}
use Rattle.std.specs.Str.{bytes_eq}
use Rattle.pk_base.specs.Paths.{segments, folder_of}

-- the folder is named `node_modules`
abbrev pub holds_packages : List ℕ → Bool
holds_packages folder = bytes_eq folder (codes "node_modules") || ends_with nat_eq folder (codes "/node_modules")

-- a folder and so many folders above it, from it outwards
abbrev pub folders_above : ℕ → List ℕ → List (List ℕ)
folders_above zero folder = folder ∷ []
folders_above (suc above) folder = folder ∷ folders_above above (folder_of folder)

-- a folder and all above it, from it outwards to the root
abbrev pub outward : List ℕ → List (List ℕ)
outward folder = folders_above (length (segments folder)) folder
