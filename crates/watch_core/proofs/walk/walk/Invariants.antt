-- what stays, and what was followed so far
use Rattle.std.proofs.Common.{◌≡◌, ◌-◌, IsTrue, length}
use Rattle.std.specs.Map.{keys_of}
use Rattle.pk_types.specs.declared.limits.TheConstants.{MAX_MODULES}
use Rattle.module_graph.specs.Known.{with_paths}
use Rattle.pk_base.specs.FileTree.{FileTree}
use Rattle.watch_core.specs.Asking.{KeepsSights, Sees}
use Rattle.watch_core.specs.Followed.{rows_asks}
use Rattle.watch_core.specs.Trees.{is_there, seen}
use Rattle.watch_core.proofs.WalkSteps.{IsWalking, HasFollowed}
use Rattle.watch_core.proofs.walk.walk.Given as goal

abbrev pub invariant-modules : goal.invariant-modules
invariant-modules g l =
    let old = g.F.Files.means l.fn.files in
    let now = g.F.Files.means l.files in
    record {
      keeps : KeepsSights old now l.fn.sights l.sights;
      walking : IsWalking l.fn.entry l.walker;
      followed : (t : FileTree) → Sees old l.fn.sights t → IsTrue (is_there (seen t l.fn.entry)) → HasFollowed t l.walker;
      keys : (t : FileTree) → Sees old l.fn.sights t → IsTrue (is_there (seen t l.fn.entry)) → keys_of l.sights ≡ with_paths (keys_of l.fn.sights) (rows_asks t l.walker.builder.rows);
    }

abbrev pub decreases-modules : goal.decreases-modules
decreases-modules g l = MAX_MODULES - length l.walker.builder.rows
