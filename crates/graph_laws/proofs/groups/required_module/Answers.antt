use Rattle.graph_laws.proofs.SmallGroups.{required_entry, required_later}
use Rattle.graph_laws.proofs.RequiredModule.{require_use, require_edges, require_has_groups}
use Rattle.graph_laws.proofs.groups.required_module.Goals as goal

pub returns-clause-used : goal.returns-clause-used
returns-clause-used c = require_use

pub returns-clause-edges : goal.returns-clause-edges
returns-clause-edges c = require_edges

pub returns-clause-groups : goal.returns-clause-groups
returns-clause-groups c = require_has_groups

pub returns-clause-entry : goal.returns-clause-entry
returns-clause-entry c = required_entry

pub returns-clause-later : goal.returns-clause-later
returns-clause-later c = required_later
