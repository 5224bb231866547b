use Rattle.pk_types.proofs.OneSearch.{stops_once}
use Rattle.pk_types.proofs.OneActive.{active_once}
use Rattle.graph_laws.proofs.uses.edges_are_determined.Goals as goal

pub returns-clause-stops : goal.returns-clause-stops
returns-clause-stops c = stops_once

pub returns-clause-active : goal.returns-clause-active
returns-clause-active c = active_once
