-- the modules so far
use Rattle.std.proofs.Common.{◌≡◌, ℕ, ◌<◌, [], length, get_or}
use Rattle.chunk_groups.specs.Lines.{LoadsWith}
use Rattle.chunk_groups.proofs.lines.loads.Given as goal

abbrev pub invariant-loop-number : goal.invariant-loop-number
invariant-loop-number l = record {
  each : length l.loads.items ≡ l.number;
  lists : (k : ℕ) → k < l.number → LoadsWith l.graph l.edges k (get_or l.loads.items k []);
}
