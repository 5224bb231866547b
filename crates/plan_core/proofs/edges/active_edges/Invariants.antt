-- the edges so far
use Rattle.plan_core.proofs.Keeping.{IsKept}
use Rattle.plan_core.proofs.edges.active_edges.Given as goal

abbrev pub invariant-loop-number : goal.invariant-loop-number
invariant-loop-number l = IsKept l.reached l.fn.edges.items l.edges.items l.number
