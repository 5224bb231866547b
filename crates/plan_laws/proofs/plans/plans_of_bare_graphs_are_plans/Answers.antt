use Rattle.std.proofs.Common.{length}
use Rattle.plan_laws.proofs.Unused.{nothing_used}
use Rattle.plan_laws.proofs.SameEdges.{is_active, each_edges}
use Rattle.plan_laws.proofs.SameGroups.{are_groups}
use Rattle.plan_laws.proofs.SameChunks.{are_placed, is_split}
use Rattle.plan_laws.proofs.SameScopes.{are_hoists}
use Rattle.plan_laws.proofs.SameNames.{are_given}
use Rattle.plan_laws.proofs.SameIds.{are_ids}
use Rattle.plan_laws.proofs.plans.plans_of_bare_graphs_are_plans.Goals as goal

pub returns-clause-used : goal.returns-clause-used
returns-clause-used c graph plan bare planned = nothing_used graph bare plan.used planned.used

pub returns-clause-edges : goal.returns-clause-edges
returns-clause-edges c graph plan fits bare unflagged planned = is_active graph plan.active planned.active bare plan.used planned.used fits unflagged

pub returns-clause-groups : goal.returns-clause-groups
returns-clause-groups c graph plan bare planned = are_groups graph bare plan.active plan.groups planned.groups

pub returns-clause-placed : goal.returns-clause-placed
returns-clause-placed c graph plan planned = are_placed graph plan.active.edges plan.groups planned.groups

pub returns-clause-chunks : goal.returns-clause-chunks
returns-clause-chunks c graph plan planned placed right = is_split graph plan.active.edges plan.groups planned.groups plan.chunks planned.chunks placed right

pub returns-clause-scopes : goal.returns-clause-scopes
returns-clause-scopes c graph plan planned =
    are_hoists (record { graph = graph; active = plan.active; used = plan.used; chunks = plan.chunks }) planned.active plan.hoists planned.hoists

pub returns-clause-names : goal.returns-clause-names
returns-clause-names c graph plan bare planned =
    are_given graph bare plan.names planned.names plan.hoists.root (length plan.active.edges) (each_edges graph plan.active planned.active) planned.hoists.root

pub returns-clause-ids : goal.returns-clause-ids
returns-clause-ids c graph plan planned = are_ids graph plan planned
