use Rattle.std.proofs.Common.{◌≡◌, length}
use Rattle.split_chunks.specs.States.{state_of}
use Rattle.split_chunks.specs.Picking.{AreFirstGathered}
use Rattle.split_chunks.proofs.picks.gather_all.Given as goal

abbrev pub invariant-loop-cache : goal.invariant-loop-cache
invariant-loop-cache l = record {
  each : length l.all.items ≡ l.cache-index;
  gathered : AreFirstGathered l.graph l.config (state_of l.state) l.all.items l.cache-index;
}
