use Rattle.graph_laws.proofs.EntryItself.{itself_use, itself_edges, itself_groups}
use Rattle.graph_laws.proofs.SmallGroups.{entry_itself_entry, entry_itself_later}
use Rattle.graph_laws.proofs.groups.shared_by_entry.Goals as goal

pub returns-clause-used : goal.returns-clause-used
returns-clause-used c = itself_use

pub returns-clause-edges : goal.returns-clause-edges
returns-clause-edges c = itself_edges

pub returns-clause-groups : goal.returns-clause-groups
returns-clause-groups c = itself_groups

pub returns-clause-entry : goal.returns-clause-entry
returns-clause-entry c = entry_itself_entry

pub returns-clause-later : goal.returns-clause-later
returns-clause-later c = entry_itself_later
