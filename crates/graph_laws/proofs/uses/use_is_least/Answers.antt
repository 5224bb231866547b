use Rattle.graph_laws.proofs.LeastUse.{least_reached, least_used, least_through, least_whole}
use Rattle.graph_laws.proofs.uses.use_is_least.Goals as goal

pub returns-clause-reached : goal.returns-clause-reached
returns-clause-reached c = least_reached

pub returns-clause-used : goal.returns-clause-used
returns-clause-used c = least_used

pub returns-clause-through : goal.returns-clause-through
returns-clause-through c = least_through

pub returns-clause-space : goal.returns-clause-space
returns-clause-space c = least_whole
