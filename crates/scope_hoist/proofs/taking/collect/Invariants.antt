-- what is collected so far
use Rattle.scope_hoist.proofs.Taken.{IsCollecting}
use Rattle.scope_hoist.proofs.taking.collect.Given as goal

abbrev pub invariant-loop-place : goal.invariant-loop-place
invariant-loop-place l = IsCollecting l.ground.homes.items l.root l.initial.marks l.marks l.initial.roots.items l.roots.items l.rest.items l.place
