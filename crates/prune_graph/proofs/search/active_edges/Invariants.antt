-- the search so far, in the same graph, and the modules that were not gone through
use Rattle.std.proofs.Common.{◌≡◌, ◌-◌, length}
use Rattle.prune_graph.proofs.Led.{IsLed}
use Rattle.prune_graph.proofs.search.active_edges.Given as goal

abbrev pub invariant-loop-place : goal.invariant-loop-place
invariant-loop-place l = record {
  same : l.stops ≡ l.graph;
  led : IsLed l.graph l.used l.edges.items l.known.keys l.place;
}

abbrev pub decreases-loop-place : goal.decreases-loop-place
decreases-loop-place l = length l.graph.rows - l.place
