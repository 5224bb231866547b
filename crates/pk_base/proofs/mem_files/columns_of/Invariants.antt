use Rattle.std.proofs.Common.{◌≡◌, ◌++◌, map, length, vec_len}
use Rattle.std.specs.List.{All}
use Rattle.pk_base.specs.Memory.{AreKnown, held_in}
use Rattle.pk_base.specs.Trees.{held_of}
use Rattle.pk_base.proofs.mem_files.columns_of.Given as goal

abbrev pub invariant-loop-tree : goal.invariant-loop-tree
invariant-loop-tree l = record {
  known : All (λ tree. AreKnown l.paths tree.files) l.trees.items;
  len : All (λ column. vec_len column ≡ length l.paths) l.columns.items;
  held : map held_of l.trees.items ++ map (λ column. held_in l.paths column.items) l.columns.items ≡ map held_of l.initial.trees.items;
}

abbrev pub decreases-loop-tree : goal.decreases-loop-tree
decreases-loop-tree l = vec_len l.trees
