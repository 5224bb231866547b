-- the modules so far
use Rattle.std.proofs.Common.{◌≡◌}
use Rattle.plan_core.specs.Closure.{known_below}
use Rattle.plan_core.proofs.closure.by_number.Given as goal

abbrev pub invariant-loop-number : goal.invariant-loop-number
invariant-loop-number l = l.modules.items ≡ known_below l.set.keys l.number-counter
