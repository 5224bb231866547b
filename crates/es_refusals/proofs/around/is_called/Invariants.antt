-- the answer is that for what the parentheses so far go around
use Rattle.std.proofs.Common.{◌≡◌, ◌+◌}
use Rattle.es_refusals.specs.Around.{called_from}
use Rattle.es_refusals.proofs.around.is_called.Given as goal

abbrev pub invariant-loop-outer : goal.invariant-loop-outer
invariant-loop-outer l = record {
  around : l.outer + l.last ≡ l.fn.place + l.fn.place;
  called : called_from l.outlined.marks l.outer l.last ≡ called_from l.outlined.marks l.fn.place l.fn.place;
}

abbrev pub decreases-loop-outer : goal.decreases-loop-outer
decreases-loop-outer l = l.outer
