use Rattle.graph_laws.proofs.SharedLater.{shared_use, shared_edges, shared_groups}
use Rattle.graph_laws.proofs.SmallGroups.{one_parent_entry, one_parent_first, one_parent_second, one_parent_last}
use Rattle.graph_laws.proofs.groups.shared_by_one_parent.Goals as goal

pub returns-clause-used : goal.returns-clause-used
returns-clause-used c = shared_use

pub returns-clause-edges : goal.returns-clause-edges
returns-clause-edges c = shared_edges

pub returns-clause-groups : goal.returns-clause-groups
returns-clause-groups c = shared_groups

pub returns-clause-entry : goal.returns-clause-entry
returns-clause-entry c = one_parent_entry

pub returns-clause-first : goal.returns-clause-first
returns-clause-first c = one_parent_first

pub returns-clause-second : goal.returns-clause-second
returns-clause-second c = one_parent_second

pub returns-clause-last : goal.returns-clause-last
returns-clause-last c = one_parent_last
