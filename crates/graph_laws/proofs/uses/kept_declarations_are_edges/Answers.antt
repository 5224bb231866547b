use Rattle.pk_types.proofs.EdgesReach.{unflagged_is_edge, whole_is_edge}
use Rattle.graph_laws.proofs.uses.kept_declarations_are_edges.Goals as goal

pub returns-clause-unflagged : goal.returns-clause-unflagged
returns-clause-unflagged c graph used active use_ right number request target edges reached d f e =
    unflagged_is_edge graph used active use_ right number request target edges ((right.reached number).0 reached) d f e

pub returns-clause-space : goal.returns-clause-space
returns-clause-space c graph used active use_ right number request target edges reached d w e =
    whole_is_edge graph used active use_ right number request target edges ((right.reached number).0 reached) d w e
