use Rattle.es_reader.proofs.Tying.{item_to_sound}
use Rattle.es_reader.proofs.law.items_are_sound.Goals as goal

pub returns : goal.returns
returns c text nest context p x q e = item_to_sound text nest context p x q e
