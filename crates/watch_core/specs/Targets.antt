-- Where the requests of a module lead.
use Rattle.std.specs.Prelude.{ℕ, Bool, ◌&&◌, ◌||◌, List, [], ◌∷◌, ◌++◌, Option, None, Some, codes, nat_eq, is_some, if◌then◌else◌}
use Rattle.std.specs.List.{starts_with, ends_with}
use Rattle.std.specs.Option.{option_and_then, option_map, option_to_list}
use Rattle.pk_base.specs.FileTree.{FileTree}
use Rattle.pk_base.specs.Paths.{joined}
use Rattle.watch_core.specs.Trees.{seen, is_there}

-- from the module's own folder, and to a script
abbrev pub is_relative : List ℕ → Bool
is_relative request = (starts_with nat_eq request (codes "./") || starts_with nat_eq request (codes "../")) && ends_with nat_eq request (codes ".js")

-- what a build writes is no part of the tree that it reads
abbrev pub is_output : List ℕ → Bool
is_output path = starts_with nat_eq path (codes "dist/")

abbrev pub unless_output : List ℕ → Option (List ℕ)
unless_output path = if is_output path then None else Some path

-- the path that a request leads to from a module in a folder, if it leads to any
abbrev pub target_from : List ℕ → List ℕ → Option (List ℕ)
target_from folder request = if is_relative request then option_and_then unless_output (joined folder request) else None

abbrev pub file_at : FileTree → List ℕ → Option (List ℕ)
file_at t path = if is_there (seen t path) then Some path else None

-- the file that it leads to
abbrev pub file_from : FileTree → List ℕ → List ℕ → Option (List ℕ)
file_from t folder request = option_and_then (file_at t) (target_from folder request)

-- the files that requests lead to, if each leads to one
abbrev pub files_from : FileTree → List ℕ → List (List ℕ) → Option (List (List ℕ))
files_from t folder [] = Some []
files_from t folder (request ∷ requests) = option_and_then (λ file. option_map (λ files. file ∷ files) (files_from t folder requests)) (file_from t folder request)

-- the paths that are looked at for them, in order: none behind the first request that leads to no file
abbrev pub looked_at_from : FileTree → List ℕ → List (List ℕ) → List (List ℕ)
looked_at_from t folder [] = []
looked_at_from t folder (request ∷ requests) =
    option_to_list (target_from folder request) ++ (if is_some (file_from t folder request) then looked_at_from t folder requests else [])
