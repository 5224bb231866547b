use Rattle.plan_laws.proofs.SamePlans.{plan_once}
use Rattle.plan_laws.proofs.one.a_graph_has_one_plan.Goals as goal

pub returns : goal.returns
returns c = plan_once
