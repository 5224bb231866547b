use Rattle.es_reader.proofs.Tying.{expression_to_sound}
use Rattle.es_reader.proofs.law.expressions_are_sound.Goals as goal

pub returns : goal.returns
returns c text nest context p x q e = expression_to_sound text nest context p x q e
