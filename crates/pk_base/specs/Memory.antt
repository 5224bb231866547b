-- What the insides of the objects in memory stand for.
use Rattle.std.specs.Prelude.{ℕ, List, Option, None, Some, IsSome, slice_index_or}
use Rattle.std.specs.List.{All}
use Rattle.std.specs.Str.{bytes_eq}
use Rattle.std.specs.Map.{lookup}
use Rattle.pk_base.specs.FileTree.{FileTree}
use Rattle.pk_text.specs.Places.{place_of}

-- the bytes under each name, by entries of names and bytes
abbrev pub named : List (List ℕ × List ℕ) → FileTree
named entries name = lookup (bytes_eq name) entries

-- what stands at a place of a column, if it is one
abbrev pub content_at : List (Option (List ℕ)) → Option ℕ → Option (List ℕ)
content_at column None = None
content_at column (Some n) = slice_index_or column n None

-- the bytes at each path, by the list of the known paths and a column of what stands at each
abbrev pub held_in : List (List ℕ) → List (Option (List ℕ)) → FileTree
held_in paths column path = content_at column (place_of paths path)

-- each file's path is known
abbrev pub AreKnown : List (List ℕ) → List (List ℕ × List ℕ) → Type 0
AreKnown paths files = All (λ file. IsSome (place_of paths file.0)) files
