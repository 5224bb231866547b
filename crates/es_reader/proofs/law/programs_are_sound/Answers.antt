use Rattle.es_reader.proofs.Tying.{program_sound}
use Rattle.es_reader.proofs.law.programs_are_sound.Goals as goal

pub returns : goal.returns
returns c text goal_of_program x e = program_sound text goal_of_program x e
