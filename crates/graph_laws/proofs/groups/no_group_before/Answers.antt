use Rattle.pk_types.proofs.Availabilities.{none_at_entry, entry_places}
use Rattle.graph_laws.proofs.groups.no_group_before.Goals as goal

pub returns-clause-none : goal.returns-clause-none
returns-clause-none c = none_at_entry

pub returns-clause-all : goal.returns-clause-all
returns-clause-all c = entry_places
