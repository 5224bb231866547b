use Rattle.graph_laws.proofs.OneUse.{placed_once}
use Rattle.graph_laws.proofs.groups.what_groups_bring_is_determined.Goals as goal

pub returns : goal.returns
returns c = placed_once
