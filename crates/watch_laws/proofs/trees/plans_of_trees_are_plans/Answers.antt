use Rattle.plan_laws.proofs.OnePlan.{is_general, one_plan}
use Rattle.watch_laws.proofs.BareTrees.{is_bare, unflagged}
use Rattle.watch_laws.proofs.FittingTrees.{fits}
use Rattle.watch_laws.proofs.trees.plans_of_trees_are_plans.Goals as goal

pub returns-clause-is : goal.returns-clause-is
returns-clause-is c t graph bodies asks has = is_general graph (fits t graph bodies asks has) (is_bare t graph bodies asks has) (unflagged t graph bodies asks has)

pub returns-clause-only : goal.returns-clause-only
returns-clause-only c t graph bodies asks has = one_plan graph (fits t graph bodies asks has) (is_bare t graph bodies asks has) (unflagged t graph bodies asks has)
