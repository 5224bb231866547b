-- Where the nearest manifest of a module may stand.
use Rattle.std.specs.Prelude.{ℕ, zero, suc, Bool, ◌||◌, List, [], ◌++◌, codes, length, nat_eq, if◌then◌else◌}
use Rattle.std.specs.List.{ends_with}
use Rattle.std.specs.Option.{option_to_list}
use Rattle.std.specs.Str.{bytes_eq}
use Rattle.pk_base.specs.Paths.{segments, folder_of, joined}

-- the folder is named `node_modules`
abbrev pub holds_packages : List ℕ → Bool
holds_packages folder = bytes_eq folder (codes "node_modules") || ends_with nat_eq folder (codes "/node_modules")

unfoldable pub manifest_name : List ℕ
manifest_name = codes "package.json"

-- the manifest that a folder may hold
abbrev pub manifest_in : List ℕ → List (List ℕ)
manifest_in folder = option_to_list (joined folder manifest_name)

-- the manifests that a folder and so many folders above it may hold, from it outwards: it ends at a folder named `node_modules`
abbrev pub manifests_above : ℕ → List ℕ → List (List ℕ)
manifests_above zero folder = if holds_packages folder then [] else manifest_in folder
manifests_above (suc above) folder = if holds_packages folder then [] else manifest_in folder ++ manifests_above above (folder_of folder)

-- where the nearest manifest of the module at a path may stand, from its folder outwards to the root
abbrev pub manifest_paths : List ℕ → List (List ℕ)
manifest_paths path = manifests_above (length (segments (folder_of path))) (folder_of path)
