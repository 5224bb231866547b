use Rattle.graph_laws.proofs.StarEdges.{star_use, star_edges, star_has_groups, star_barrel_is_skipped, fourth_is_skipped}
use Rattle.graph_laws.proofs.uses.starred_barrel.Goals as goal

pub returns-clause-used : goal.returns-clause-used
returns-clause-used c = star_use

pub returns-clause-edges : goal.returns-clause-edges
returns-clause-edges c = star_edges

pub returns-clause-groups : goal.returns-clause-groups
returns-clause-groups c = star_has_groups

pub returns-clause-skipped : goal.returns-clause-skipped
returns-clause-skipped c = star_barrel_is_skipped

pub returns-clause-behind : goal.returns-clause-behind
returns-clause-behind c = fourth_is_skipped
