-- The paths of files that a path may stand for.
use Rattle.std.specs.Prelude.{ℕ, List, [], ◌∷◌, ◌++◌, codes, Option, None, Some, if◌then◌else◌}
use Rattle.std.specs.Option.{option_to_list}
use Rattle.std.specs.Str.{bytes_eq}
use Rattle.pk_base.specs.Paths.{joined, path_or_none}
use Rattle.node_resolve.specs.declared.sight.Package.{Package}

-- the path with more behind it, if that is a path
abbrev pub longer : List ℕ → List ℕ → List (List ℕ)
longer path ending = option_to_list (path_or_none (path ++ ending))

-- as a file: the path, and with the endings of scripts and of JSON; the root is no file
abbrev pub file_paths : List ℕ → List (List ℕ)
file_paths path = if bytes_eq path [] then [] else path ∷ (longer path (codes ".js") ++ longer path (codes ".json"))

-- as a folder without a manifest
abbrev pub index_paths : List ℕ → List (List ℕ)
index_paths path = option_to_list (joined path (codes "index.js")) ++ option_to_list (joined path (codes "index.json"))

abbrev pub file_or_index_paths : Option (List ℕ) → List (List ℕ)
file_or_index_paths None = []
file_or_index_paths (Some path) = file_paths path ++ index_paths path

-- what a field of a folder's manifest names: nothing where it isn't there or is empty
abbrev pub field_paths : List ℕ → Option (List ℕ) → List (List ℕ)
field_paths folder None = []
field_paths folder (Some text) = if bytes_eq text [] then [] else file_or_index_paths (joined folder text)

-- as a folder, by its manifest where it has one
abbrev pub folder_paths : List ℕ → Option Package → List (List ℕ)
folder_paths folder None = index_paths folder
folder_paths folder (Some owner) = field_paths folder owner.manifest.«module» ++ (field_paths folder owner.manifest.main ++ index_paths folder)
