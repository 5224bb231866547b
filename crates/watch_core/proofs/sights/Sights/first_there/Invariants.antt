-- what stays, and what is left to look at
use Rattle.std.proofs.Common.{◌≡◌, drop}
use Rattle.pk_base.specs.FileTree.{FileTree}
use Rattle.std.specs.Map.{keys_of}
use Rattle.module_graph.specs.Known.{with_paths}
use Rattle.watch_core.specs.Trees.{first_there, looked_at}
use Rattle.watch_core.specs.Asking.{KeepsSights, Sees}
use Rattle.watch_core.proofs.sights.Sights.first_there.Given as goal

abbrev pub invariant-loop-path : goal.invariant-loop-path
invariant-loop-path g l =
    let old = g.F.Files.means l.fn.files in
    let now = g.F.Files.means l.files in
    record {
      keeps : KeepsSights old now l.fn.self l.self;
      keys : (t : FileTree) → Sees old l.fn.self t → with_paths (keys_of l.self) (looked_at t (drop l.path-index l.paths)) ≡ with_paths (keys_of l.fn.self) (looked_at t l.paths);
      first : (t : FileTree) → Sees old l.fn.self t → first_there t (drop l.path-index l.paths) ≡ first_there t l.paths;
    }
