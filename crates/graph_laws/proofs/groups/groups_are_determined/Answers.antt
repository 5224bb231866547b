use Rattle.pk_types.proofs.OneGroups.{groups_once}
use Rattle.graph_laws.proofs.groups.groups_are_determined.Goals as goal

pub returns : goal.returns
returns c = groups_once
