use Rattle.std.proofs.Common.{◌≡◌, ◌++◌, length}
use Rattle.pk_base.specs.Paths.{segments}
use Rattle.node_resolve.specs.Folders as spec
use Rattle.node_resolve.proofs.folders.outward.Given as goal

abbrev pub invariant-folders : goal.invariant-folders
invariant-folders l = l.folders.items ++ spec.outward l.here ≡ spec.outward l.fn.folder

abbrev pub decreases-folders : goal.decreases-folders
decreases-folders l = length (segments l.here)
