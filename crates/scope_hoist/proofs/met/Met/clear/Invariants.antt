-- the marks are those of what is left, which gets less
use Rattle.std.proofs.Common.{length}
use Rattle.edge_search.specs.Marks.{AreMarked}
use Rattle.scope_hoist.proofs.met.Met.clear.Given as goal

abbrev pub invariant-loop-node : goal.invariant-loop-node
invariant-loop-node l = AreMarked l.self-inside.marks.items l.self-inside.met.items

abbrev pub decreases-loop-node : goal.decreases-loop-node
decreases-loop-node l = length l.self-inside.met.items
