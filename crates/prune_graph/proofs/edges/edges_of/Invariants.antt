-- the edges of the requests that were gone through are added, in the same graph
use Rattle.std.proofs.Common.{◌≡◌, take, []}
use Rattle.pk_types.specs.ActiveEdges.{GivesEdges}
use Rattle.prune_graph.specs.RowEdges.{AddsEach}
use Rattle.prune_graph.proofs.edges.edges_of.Given as goal

abbrev pub invariant-loop-request : goal.invariant-loop-request
invariant-loop-request l = record {
  same : l.stops ≡ l.fn.stops;
  adds : AddsEach (GivesEdges l.fn.stops l.module l.row l.used) (take l.request-index l.row.facts.order) [] l.edges.keys;
}
