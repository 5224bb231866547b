-- the walk so far, and what is left of it
use Rattle.scope_hoist.proofs.Walking.{IsWalking, left_over}
use Rattle.scope_hoist.proofs.walk.items_of.Given as goal

abbrev pub invariant-loop-frame : goal.invariant-loop-frame
invariant-loop-frame l = IsWalking l.edges l.roots l.root l.met l.stack.items l.items.items

abbrev pub decreases-loop-frame : goal.decreases-loop-frame
decreases-loop-frame l = left_over l.edges l.met l.stack.items
