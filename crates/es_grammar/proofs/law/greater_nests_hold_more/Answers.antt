use Rattle.es_grammar.proofs.Growing.{growing}
use Rattle.es_grammar.proofs.law.greater_nests_hold_more.Goals as goal

pub returns : goal.returns
returns c text goal_of_program m n items last less stand = growing text goal_of_program m n items last less stand
