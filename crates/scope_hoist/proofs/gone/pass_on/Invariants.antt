-- what went so far
use Rattle.scope_hoist.proofs.Going.{IsPassing}
use Rattle.scope_hoist.proofs.gone.pass_on.Given as goal

abbrev pub invariant-loop-target : goal.invariant-loop-target
invariant-loop-target l = IsPassing l.ground.asks.items l.ground.homes.items l.root l.from l.target-items l.target-index l.initial.marks l.marks l.initial.gone.items l.gone.items
