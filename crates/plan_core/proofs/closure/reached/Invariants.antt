-- the search so far, and the modules that were not gone through
use Rattle.std.proofs.Common.{◌-◌, length}
use Rattle.plan_core.proofs.Search.{IsSearch}
use Rattle.plan_core.proofs.closure.reached.Given as goal

abbrev pub invariant-loop-place : goal.invariant-loop-place
invariant-loop-place l = IsSearch l.edges l.from l.known.keys l.place

abbrev pub decreases-loop-place : goal.decreases-loop-place
decreases-loop-place l = length l.edges - l.place
