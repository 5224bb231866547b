-- an empty list for each module so far
use Rattle.std.proofs.Common.{◌≡◌, [], replicate}
use Rattle.plan_core.proofs.planning.no_names.Given as goal

abbrev pub invariant-loop-place : goal.invariant-loop-place
invariant-loop-place l = l.names.items ≡ replicate l._place []
