-- the modules so far
use Rattle.std.proofs.Common.{◌≡◌, ℕ, ◌<◌, [], length, get_or}
use Rattle.chunk_groups.specs.Lines.{ImportsBy}
use Rattle.chunk_groups.proofs.lines.imports.Given as goal

abbrev pub invariant-loop-row : goal.invariant-loop-row
invariant-loop-row l = record {
  each : length l.imports.items ≡ l.row-index;
  lists : (k : ℕ) → k < l.row-index → ImportsBy l.graph k (get_or l.imports.items k []);
}
