use Rattle.std.proofs.Common.{take}
use Rattle.std.specs.List.{All}
use Rattle.pk_base.specs.Memory.{AreKnown}
use Rattle.pk_base.proofs.mem_files.list_all.Given as goal

abbrev pub invariant-loop-tree : goal.invariant-loop-tree
invariant-loop-tree l = All (λ tree. AreKnown l.paths tree.files) (take l.tree-index l.trees)
