use Rattle.es_reader.proofs.Tying.{program_sound}
use Rattle.es_trace.proofs.law.trees_parse.Goals as goal

pub returns : goal.returns
returns c text goal_of program is = program_sound text goal_of program is
