use Rattle.pk_types.proofs.GroupWalks.{held_is_reached, reached_is_placed}
use Rattle.graph_laws.proofs.groups.groups_bring_reached.Goals as goal

pub returns-clause-held : goal.returns-clause-held
returns-clause-held c graph used active groups right made = held_is_reached graph active groups made right.reached

pub returns-clause-placed : goal.returns-clause-placed
returns-clause-placed c graph used active groups right made = reached_is_placed graph active groups made right.reached
