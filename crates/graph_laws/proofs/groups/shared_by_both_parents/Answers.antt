use Rattle.graph_laws.proofs.SmallGroups.{both_parents_entry, both_parents_first, both_parents_second, both_parents_last}
use Rattle.graph_laws.proofs.groups.shared_by_both_parents.Goals as goal

pub returns-clause-entry : goal.returns-clause-entry
returns-clause-entry c = both_parents_entry

pub returns-clause-first : goal.returns-clause-first
returns-clause-first c = both_parents_first

pub returns-clause-second : goal.returns-clause-second
returns-clause-second c = both_parents_second

pub returns-clause-last : goal.returns-clause-last
returns-clause-last c = both_parents_last
