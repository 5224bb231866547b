-- The tree that requests are resolved in.
use Rattle.std.specs.Prelude.{◌≡◌, Bool, ℕ, List, None, codes, nat_eq, if◌then◌else◌}
use Rattle.std.specs.List.{All, starts_with}
use Rattle.pk_base.specs.FileTree.{FileTree}

-- the path lies beneath `dist`, where a build writes
abbrev pub is_output : List ℕ → Bool
is_output path = starts_with nat_eq path (codes "dist/")

-- the tree without what lies beneath `dist`
abbrev pub present : FileTree → FileTree
present t path = if is_output path then None else t path

-- two trees have the same at these paths, but for what lies beneath `dist`
abbrev pub AgreesOn : FileTree → FileTree → List (List ℕ) → Type 0
AgreesOn t u paths = All (λ path. present u path ≡ present t path) paths
