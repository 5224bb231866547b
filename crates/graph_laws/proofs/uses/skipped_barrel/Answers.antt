use Rattle.graph_laws.proofs.SmallUse.{barrel_use, barrel_edges, owner_reached, barrel_is_skipped}
use Rattle.graph_laws.proofs.uses.skipped_barrel.Goals as goal

pub returns-clause-used : goal.returns-clause-used
returns-clause-used c = barrel_use

pub returns-clause-edges : goal.returns-clause-edges
returns-clause-edges c = barrel_edges

pub returns-clause-owner : goal.returns-clause-owner
returns-clause-owner c = owner_reached

pub returns-clause-skipped : goal.returns-clause-skipped
returns-clause-skipped c = barrel_is_skipped
