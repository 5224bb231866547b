-- Trees of files.
use Rattle.std.specs.Str.{bytes_eq}
use Rattle.std.specs.Map.{lookup}
use Rattle.pk_base.specs.declared.tree.Tree.{Tree}
use Rattle.pk_base.specs.FileTree.{FileTree}

-- a tree as a function: the bytes at each path, if the path stands in it
abbrev pub held_of : Tree → FileTree
held_of tree path = lookup (bytes_eq path) tree.files
