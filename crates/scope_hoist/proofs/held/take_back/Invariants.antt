-- what is held so far
use Rattle.scope_hoist.proofs.Holding.{IsTakingBack}
use Rattle.scope_hoist.proofs.held.take_back.Given as goal

abbrev pub invariant-loop-target : goal.invariant-loop-target
invariant-loop-target l = IsTakingBack l.asks l.homes l.initial.marks l.from l.target-items l.target-index l.marks
