use Rattle.graph_laws.proofs.FoundWays.{owner_is_reached, space_names_reach}
use Rattle.graph_laws.proofs.uses.owners_of_used_names_are_reached.Goals as goal

pub returns-clause-name : goal.returns-clause-name
returns-clause-name c = owner_is_reached

pub returns-clause-space : goal.returns-clause-space
returns-clause-space c = space_names_reach
