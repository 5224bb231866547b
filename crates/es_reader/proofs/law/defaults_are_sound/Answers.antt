use Rattle.es_reader.proofs.Tying.{default_to_sound}
use Rattle.es_reader.proofs.law.defaults_are_sound.Goals as goal

pub returns : goal.returns
returns c text nest context p x q e = default_to_sound text nest context p x q e
