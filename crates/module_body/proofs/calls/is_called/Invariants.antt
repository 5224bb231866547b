use Rattle.std.proofs.Common.{◌≡◌, length}
use Rattle.module_body.specs.Calls.{is_called}
use Rattle.module_body.proofs.calls.is_called.Given as goal

abbrev pub invariant-loop-mark : goal.invariant-loop-mark
invariant-loop-mark l = is_called l.outlined.text l.more l.left ≡ is_called l.fn.outlined.text l.fn.opens l.fn.marks

abbrev pub decreases-loop-mark : goal.decreases-loop-mark
decreases-loop-mark l = length l.left
