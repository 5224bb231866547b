use Rattle.std.proofs.Common.{[]}
use Rattle.pk_types.proofs.Stops.{found_is_stop, stop_is_found}
use Rattle.graph_laws.proofs.uses.search_finds_stops.Goals as goal

pub returns : goal.returns
returns c graph number name stops has stop = (λ m. found_is_stop graph [] has.0 number name stops has.1 stop m, λ way. stop_is_found graph number name stops stop has way)
