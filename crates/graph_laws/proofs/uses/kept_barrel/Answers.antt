use Rattle.graph_laws.proofs.BarrelEdges.{open_use, open_graph_edges}
use Rattle.graph_laws.proofs.uses.kept_barrel.Goals as goal

pub returns-clause-used : goal.returns-clause-used
returns-clause-used c = open_use

pub returns-clause-edges : goal.returns-clause-edges
returns-clause-edges c = open_graph_edges
