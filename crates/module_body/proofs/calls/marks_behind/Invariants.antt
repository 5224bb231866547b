use Rattle.std.proofs.Common.{◌≡◌, length}
use Rattle.module_body.specs.Calls.{marks_behind}
use Rattle.module_body.proofs.calls.marks_behind.Given as goal

abbrev pub invariant-loop-mark : goal.invariant-loop-mark
invariant-loop-mark l = marks_behind l.end l.left ≡ marks_behind l.end l.fn.marks

abbrev pub decreases-loop-mark : goal.decreases-loop-mark
decreases-loop-mark l = length l.left
