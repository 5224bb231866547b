-- the marks of the first modules
use Rattle.std.proofs.Common.{◌≡◌, ℕ, ◌<◌, false, nat_eq, length, get_or}
use Rattle.std.specs.List.{list_any}
use Rattle.prune_graph.proofs.search.marks.Given as goal

abbrev pub invariant-loop-number : goal.invariant-loop-number
invariant-loop-number l = record {
  each : length l.marks.items ≡ l.number-counter;
  known : (k : ℕ) → k < l.number-counter → get_or l.marks.items k false ≡ list_any (nat_eq k) l.known.keys;
}
