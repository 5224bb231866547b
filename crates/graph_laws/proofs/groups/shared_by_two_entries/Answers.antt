use Rattle.graph_laws.proofs.TwoEntries.{entries_use, entries_edges, entries_groups}
use Rattle.graph_laws.proofs.SmallGroups.{two_entries_first, two_entries_second, two_entries_later}
use Rattle.graph_laws.proofs.groups.shared_by_two_entries.Goals as goal

pub returns-clause-used : goal.returns-clause-used
returns-clause-used c = entries_use

pub returns-clause-edges : goal.returns-clause-edges
returns-clause-edges c = entries_edges

pub returns-clause-groups : goal.returns-clause-groups
returns-clause-groups c = entries_groups

pub returns-clause-first : goal.returns-clause-first
returns-clause-first c = two_entries_first

pub returns-clause-second : goal.returns-clause-second
returns-clause-second c = two_entries_second

pub returns-clause-later : goal.returns-clause-later
returns-clause-later c = two_entries_later
