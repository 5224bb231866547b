use Rattle.std.proofs.Common.{length}
use Rattle.pk_types.proofs.GroupWalks.{modules_below}
use Rattle.graph_laws.proofs.groups.groups_have_rows.Goals as goal

pub returns : goal.returns
returns c graph used active groups right made = modules_below graph active groups made right.reached (length graph.rows) right.each_reached
