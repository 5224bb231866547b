-- the stops of the names that were gone through are added, in the same graph
use Rattle.std.proofs.Common.{◌≡◌, take}
use Rattle.prune_graph.specs.Gathering.{the_names}
use Rattle.prune_graph.specs.RowEdges.{AddsStops}
use Rattle.prune_graph.proofs.edges.add_stops.Given as goal

abbrev pub invariant-loop-name : goal.invariant-loop-name
invariant-loop-name l = record {
  same : l.stops ≡ l.fn.stops;
  adds : AddsStops l.fn.stops l.target (take l.name-index (the_names l.names)) l.fn.edges.keys l.edges.keys;
}
