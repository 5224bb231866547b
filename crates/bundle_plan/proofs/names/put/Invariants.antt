-- the lists behind those that are left stand in their places
use Rattle.std.proofs.Common.{length}
use Rattle.bundle_plan.proofs.PutNames.{ArePut}
use Rattle.bundle_plan.proofs.names.put.Given as goal

abbrev pub invariant-loop-list : goal.invariant-loop-list
invariant-loop-list l = ArePut l.members l.fn.names.items l.fn.given.items l.names.items l.given.items

abbrev pub decreases-loop-list : goal.decreases-loop-list
decreases-loop-list l = length l.given.items
