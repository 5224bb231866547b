use Rattle.es_grammar.proofs.Arrays.{deep}
use Rattle.es_grammar.proofs.law.arrays_nest_to_the_limit.Goals as goal

pub returns : goal.returns
returns c text goal_of_program count last end pairs few is_end = deep text goal_of_program count last end pairs few is_end
