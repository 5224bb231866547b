use Rattle.pk_types.proofs.GroupWalks.{each_ends_a_walk}
use Rattle.graph_laws.proofs.groups.each_group_ends_a_walk.Goals as goal

pub returns : goal.returns
returns c graph used active groups right made = each_ends_a_walk graph active groups made right.reached
