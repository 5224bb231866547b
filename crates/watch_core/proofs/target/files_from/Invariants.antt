-- what stays, and what is left to follow
use Rattle.std.proofs.Common.{◌≡◌, ◌++◌, drop, length}
use Rattle.pk_base.specs.FileTree.{FileTree}
use Rattle.std.specs.Map.{keys_of}
use Rattle.std.specs.Option.{option_map}
use Rattle.module_graph.specs.Known.{with_paths}
use Rattle.watch_core.specs.Targets.{files_from, looked_at_from}
use Rattle.watch_core.specs.Asking.{KeepsSights, Sees}
use Rattle.watch_core.proofs.target.files_from.Given as goal

abbrev pub invariant-loop-request : goal.invariant-loop-request
invariant-loop-request g l =
    let old = g.F.Files.means l.fn.files in
    let now = g.F.Files.means l.files in
    record {
      keeps : KeepsSights old now l.fn.sights l.sights;
      each : length l.targets.items ≡ l.request-index;
      keys : (t : FileTree) → Sees old l.fn.sights t → with_paths (keys_of l.sights) (looked_at_from t l.folder (drop l.request-index l.requests)) ≡ with_paths (keys_of l.fn.sights) (looked_at_from t l.folder l.requests);
      value : (t : FileTree) → Sees old l.fn.sights t → option_map (λ rest. l.targets.items ++ rest) (files_from t l.folder (drop l.request-index l.requests)) ≡ files_from t l.folder l.requests;
    }
