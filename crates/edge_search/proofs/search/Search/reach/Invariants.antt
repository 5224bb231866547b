-- the search so far, and the nodes whose edges were not gone through
use Rattle.std.proofs.Common.{◌-◌, length}
use Rattle.edge_search.proofs.Growing.{IsSearch}
use Rattle.edge_search.proofs.search.Search.reach.Given as goal

abbrev pub invariant-loop-place : goal.invariant-loop-place
invariant-loop-place g l = IsSearch (g.E.Edges.edges l.edges) l.from l.self l.place

abbrev pub decreases-loop-place : goal.decreases-loop-place
decreases-loop-place g l = length (g.E.Edges.edges l.edges) - l.place
