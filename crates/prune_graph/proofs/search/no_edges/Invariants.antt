-- no edge so far
use Rattle.std.proofs.Common.{◌≡◌, ℕ, [], length, get_or}
use Rattle.prune_graph.proofs.search.no_edges.Given as goal

abbrev pub invariant-loop : goal.invariant-loop
invariant-loop l = record {
  each : length l.edges.items ≡ l.counter;
  none : (number : ℕ) → get_or l.edges.items number [] ≡ [];
}
