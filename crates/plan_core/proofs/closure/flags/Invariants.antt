-- the flags so far
use Rattle.std.proofs.Common.{◌≡◌}
use Rattle.plan_core.specs.Closure.{known_flags}
use Rattle.plan_core.proofs.closure.flags.Given as goal

abbrev pub invariant-loop-number : goal.invariant-loop-number
invariant-loop-number l = l.flags.items ≡ known_flags l.set.keys l.number-counter
