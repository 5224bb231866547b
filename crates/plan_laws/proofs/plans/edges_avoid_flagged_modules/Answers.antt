use Rattle.plan_laws.proofs.FlaggedEdges.{none_flagged}
use Rattle.plan_laws.proofs.plans.edges_avoid_flagged_modules.Goals as goal

pub returns : goal.returns
returns c graph bare = none_flagged graph bare
