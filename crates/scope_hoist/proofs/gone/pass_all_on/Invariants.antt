-- what went so far, and what is not gone through
use Rattle.std.proofs.Common.{◌+◌, ◌-◌, length}
use Rattle.scope_hoist.specs.Steps.{held_count}
use Rattle.scope_hoist.proofs.Going.{IsSettling}
use Rattle.scope_hoist.proofs.gone.pass_all_on.Given as goal

abbrev pub invariant-loop-place : goal.invariant-loop-place
invariant-loop-place l = IsSettling l.ground.asks.items l.ground.homes.items l.root l.fn.marks l.marks l.gone.items l.place

abbrev pub decreases-loop-place : goal.decreases-loop-place
decreases-loop-place l = (length l.gone.items - l.place) + held_count l.marks
