use Rattle.std.proofs.Common.{arith}
use Rattle.es_parser.proofs.Levels.{one_level}
use Rattle.es_parser.proofs.knot.+knot.Goals as goal

pub returns-clause-given : goal.returns-clause-given
returns-clause-given t c = rw (one_level c.args.cursor.now c.args.nest (omega arith)) c.step.ensures.given
