use Rattle.std.proofs.Common.{◌≡◌, ◌++◌, length}
use Rattle.es_strings.specs.Decoding.{IsHigh, inner, points, points_of, value_of}
use Rattle.es_strings.proofs.decode.value.Given as goal

abbrev pub invariant-loop-rest : goal.invariant-loop-rest
invariant-loop-rest l = (value_of (points_of (inner l.fn.spelling)) ≡ l.bytes.items ++ value_of (points l.waits ++ points_of l.rest)) × IsHigh l.waits

abbrev pub decreases-loop-rest : goal.decreases-loop-rest
decreases-loop-rest l = length l.rest
