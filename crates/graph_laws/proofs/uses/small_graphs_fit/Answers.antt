use Rattle.graph_laws.proofs.FittingGraphs.{barrel_fits, open_fits, plain_fits, star_fits, require_fits, shared_fits, entries_fit, itself_fits}
use Rattle.graph_laws.proofs.uses.small_graphs_fit.Goals as goal

pub returns-clause-skipped : goal.returns-clause-skipped
returns-clause-skipped c = barrel_fits

pub returns-clause-kept : goal.returns-clause-kept
returns-clause-kept c = open_fits

pub returns-clause-plain : goal.returns-clause-plain
returns-clause-plain c = plain_fits

pub returns-clause-starred : goal.returns-clause-starred
returns-clause-starred c = star_fits

pub returns-clause-required : goal.returns-clause-required
returns-clause-required c = require_fits

pub returns-clause-shared : goal.returns-clause-shared
returns-clause-shared c = shared_fits

pub returns-clause-entries : goal.returns-clause-entries
returns-clause-entries c = entries_fit

pub returns-clause-itself : goal.returns-clause-itself
returns-clause-itself c = itself_fits
