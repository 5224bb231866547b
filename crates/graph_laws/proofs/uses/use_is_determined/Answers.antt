use Rattle.graph_laws.proofs.OneUse.{use_once}
use Rattle.graph_laws.proofs.uses.use_is_determined.Goals as goal

pub returns : goal.returns
returns c = use_once
