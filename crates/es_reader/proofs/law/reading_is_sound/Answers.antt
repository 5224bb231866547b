use Rattle.es_reader.proofs.Tying.{reading_sound}
use Rattle.es_reader.proofs.law.reading_is_sound.Goals as goal

pub returns : goal.returns
returns c text nest = reading_sound text nest
