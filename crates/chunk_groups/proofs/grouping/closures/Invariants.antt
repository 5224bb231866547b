-- the closures so far
use Rattle.std.proofs.Common.{◌≡◌, ℕ, ◌<◌, [], length, get_or}
use Rattle.pk_types.specs.ChunkGroups.{AreAll}
use Rattle.edge_search.specs.Reached.{IsReached}
use Rattle.chunk_groups.proofs.grouping.closures.Given as goal

abbrev pub invariant-loop-target : goal.invariant-loop-target
invariant-loop-target l = record {
  each : length l.closures.items ≡ l.target-index;
  lists : (k : ℕ) → k < l.target-index → AreAll (IsReached l.loads (get_or l.targets k 0)) (get_or l.closures.items k []);
}
