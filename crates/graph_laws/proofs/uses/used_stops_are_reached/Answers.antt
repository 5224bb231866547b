use Rattle.pk_types.proofs.UsedStops.{used_stop_is_reached, space_is_reached}
use Rattle.graph_laws.proofs.uses.used_stops_are_reached.Goals as goal

pub returns-clause-stops : goal.returns-clause-stops
returns-clause-stops c = used_stop_is_reached

pub returns-clause-spaces : goal.returns-clause-spaces
returns-clause-spaces c = space_is_reached
