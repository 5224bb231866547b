use Rattle.pk_types.proofs.Availabilities.{fewer_by_more}
use Rattle.graph_laws.proofs.groups.fewer_by_more.Goals as goal

pub returns : goal.returns
returns c = fewer_by_more
