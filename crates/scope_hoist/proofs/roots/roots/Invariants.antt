-- the sets so far
use Rattle.scope_hoist.proofs.Rooted.{AreSoFar}
use Rattle.scope_hoist.proofs.roots.roots.Given as goal

abbrev pub invariant-loop-root : goal.invariant-loop-root
invariant-loop-root l = AreSoFar l.ground.asks.items l.ground.homes.items l.may_join l.shares l.root l.roots.items l.marks
