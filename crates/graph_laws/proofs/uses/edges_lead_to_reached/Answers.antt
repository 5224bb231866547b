use Rattle.pk_types.proofs.EdgesReach.{led_is_reached, reached_is_led}
use Rattle.graph_laws.proofs.uses.edges_lead_to_reached.Goals as goal

pub returns : goal.returns
returns c graph used active fits use_ right number = (
  λ e. led_is_reached graph used active use_ right number ((right.reached number).0 e),
  λ r. (right.reached number).1 (reached_is_led graph used active use_ right fits number r),
)
