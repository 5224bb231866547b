use Rattle.plan_laws.proofs.OnePlan.{is_general, one_plan}
use Rattle.plan_laws.proofs.plans.bare_graphs_have_one_plan.Goals as goal

pub returns-clause-is : goal.returns-clause-is
returns-clause-is c = is_general

pub returns-clause-only : goal.returns-clause-only
returns-clause-only c = one_plan
