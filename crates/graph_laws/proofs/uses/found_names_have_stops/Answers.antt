use Rattle.graph_laws.proofs.FoundWays.{found_name_has_stop, found_by_star}
use Rattle.graph_laws.proofs.uses.found_names_have_stops.Goals as goal

pub returns-clause-stop : goal.returns-clause-stop
returns-clause-stop c = found_name_has_stop

pub returns-clause-star : goal.returns-clause-star
returns-clause-star c = found_by_star
