use Rattle.graph_laws.proofs.BarrelEdges.{plain_use, plain_graph_edges}
use Rattle.graph_laws.proofs.uses.plain_barrel.Goals as goal

pub returns-clause-used : goal.returns-clause-used
returns-clause-used c = plain_use

pub returns-clause-edges : goal.returns-clause-edges
returns-clause-edges c = plain_graph_edges
