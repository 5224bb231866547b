-- what is held so far, and what is not gone through
use Rattle.std.proofs.Common.{◌+◌, ◌-◌, length}
use Rattle.scope_hoist.specs.Standing.{AreStanding}
use Rattle.scope_hoist.specs.Steps.{HoldsAll, led_count}
use Rattle.scope_hoist.proofs.Holding.{AreGoneThrough}
use Rattle.scope_hoist.proofs.held.hold_all.Given as goal

abbrev pub invariant-loop-place : goal.invariant-loop-place
invariant-loop-place l = record {
  standing : AreStanding l.asks l.homes l.marks;
  all : HoldsAll l.fn.marks l.marks l.root;
  through : AreGoneThrough l.homes l.marks l.place;
}

abbrev pub decreases-loop-place : goal.decreases-loop-place
decreases-loop-place l = (length l.marks.list.items - l.place) + led_count l.marks
