-- A tree of files.
use Rattle.std.specs.Prelude.{ℕ, List, Option}

-- the bytes at each path at which a file stands; of a store, the bytes under each name
abbrev pub FileTree : Type 0
FileTree = List ℕ → Option (List ℕ)
