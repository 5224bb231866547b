-- the edges of the rows so far
use Rattle.std.proofs.Common.{◌≡◌, map, take}
use Rattle.plan_core.specs.Edges.{edges_of}
use Rattle.plan_core.proofs.edges.declared_edges.Given as goal

abbrev pub invariant-loop-row : goal.invariant-loop-row
invariant-loop-row l = l.edges.items ≡ map edges_of (take l.row-index l.row-items)
