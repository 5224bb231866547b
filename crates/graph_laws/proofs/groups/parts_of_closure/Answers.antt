use Rattle.pk_types.proofs.Availabilities.{parts_of_closure}
use Rattle.graph_laws.proofs.groups.parts_of_closure.Goals as goal

pub returns : goal.returns
returns c = parts_of_closure
