use Rattle.std.proofs.Common.{◌≡◌, ◌<◌, ℕ, false}
use Rattle.pk_base.specs.PathScan.{has_fault}
use Rattle.pk_base.proofs.path.first_fault.Given as goal

abbrev pub invariant-loop-at : goal.invariant-loop-at
invariant-loop-at l = (q : ℕ) → q < l.at → has_fault l.text q ≡ false
