use Rattle.pk_types.proofs.GroupWalks.{holds_itself, holds_along, holds_required}
use Rattle.graph_laws.proofs.groups.closures_are_closed.Goals as goal

pub returns-clause-itself : goal.returns-clause-itself
returns-clause-itself c = holds_itself

pub returns-clause-along : goal.returns-clause-along
returns-clause-along c = holds_along

pub returns-clause-required : goal.returns-clause-required
returns-clause-required c = holds_required
