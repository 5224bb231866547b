-- What a build sees of a tree.
use Rattle.std.specs.Prelude.{ℕ, Bool, true, false, List, [], ◌∷◌, Option, None, Some, if◌then◌else◌}
use Rattle.pk_types.specs.declared.limits.TheConstants.{MAX_FILE_LEN}
use Rattle.pk_base.specs.FileTree.{FileTree}
use Rattle.pk_base.specs.Outside.{read_of}
use Rattle.pk_base.specs.declared.outside.Read.{Read}
use Rattle.pk_base.specs.declared.outside.Read.TheVariants.{Absent, Bytes, Longer}

-- what a build sees at a path: a file has at most 4 MiB
abbrev pub seen : FileTree → List ℕ → Read
seen t path = read_of (t path) MAX_FILE_LEN

abbrev pub is_there : Read → Bool
is_there Absent = false
is_there (Bytes bytes) = true
is_there Longer = true

abbrev pub bytes_of : Read → List ℕ
bytes_of Absent = []
bytes_of (Bytes bytes) = bytes
bytes_of Longer = []

-- the first of some paths at which something stands
abbrev pub first_there : FileTree → List (List ℕ) → Option (List ℕ)
first_there t [] = None
first_there t (path ∷ paths) = if is_there (seen t path) then Some path else first_there t paths

-- paths are looked at in order, and none behind the first that is there
abbrev pub looked_at : FileTree → List (List ℕ) → List (List ℕ)
looked_at t [] = []
looked_at t (path ∷ paths) = path ∷ (if is_there (seen t path) then [] else looked_at t paths)
