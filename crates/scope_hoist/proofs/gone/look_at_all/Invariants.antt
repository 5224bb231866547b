-- what went so far
use Rattle.std.proofs.Common.{drop}
use Rattle.scope_hoist.specs.Going.{AreGoing}
use Rattle.scope_hoist.proofs.gone.look_at_all.Given as goal

abbrev pub invariant-loop-place : goal.invariant-loop-place
invariant-loop-place l = AreGoing l.ground.asks.items l.ground.homes.items l.root l.initial.marks l.marks l.gone.items (drop l.place l.initial.marks.list.items)
