use Rattle.pk_types.proofs.GroupWalks.{groups_fit}
use Rattle.graph_laws.proofs.groups.groups_stand_alone.Goals as goal

pub returns : goal.returns
returns c graph active groups right few = groups_fit graph active groups right few
