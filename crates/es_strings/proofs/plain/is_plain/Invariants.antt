use Rattle.std.proofs.Common.{◌≡◌, length}
use Rattle.es_strings.specs.Decoding.{inner, points_of, value_of}
use Rattle.es_strings.proofs.plain.is_plain.Given as goal

abbrev pub invariant-loop-first : goal.invariant-loop-first
invariant-loop-first l = value_of (points_of l.rest) ≡ l.rest → value_of (points_of (inner l.fn.spelling)) ≡ inner l.fn.spelling

abbrev pub decreases-loop-first : goal.decreases-loop-first
decreases-loop-first l = length l.rest
