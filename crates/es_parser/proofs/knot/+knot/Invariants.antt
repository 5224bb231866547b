use Rattle.std.proofs.Common.{◌+◌, ◌*◌}
use Rattle.es_parser.proofs.knot.+knot.Given as goal

-- A call is one step above what it calls, and below who makes it.

abbrev pub decreases-call : goal.decreases-call
decreases-call l = 2 * l.below + 1

abbrev pub decreases-tie : goal.decreases-tie
decreases-tie l = 2 * l.nest
