-- the marks are those of what was met, and there are more of them

use Rattle.std.proofs.Common.{◌≡◌, ◌+◌, ◌-◌, length}
use Rattle.edge_search.specs.Marks.{AreMarked}
use Rattle.scope_hoist.proofs.met.Met.meet.Given as goal

abbrev pub invariant-loop-self : goal.invariant-loop-self
invariant-loop-self l = record {
  marked : AreMarked l.self-inside.marks.items l.self-inside.met.items;
  met : l.self-inside.met.items ≡ l.initial.self-inside.met.items;
}

abbrev pub decreases-loop-self : goal.decreases-loop-self
decreases-loop-self l = l.place + 1 - length l.self-inside.marks.items
