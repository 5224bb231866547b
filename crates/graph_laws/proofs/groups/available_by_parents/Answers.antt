use Rattle.pk_types.proofs.Availabilities.{by_all_parents, in_each_parent}
use Rattle.graph_laws.proofs.groups.available_by_parents.Goals as goal

pub returns-clause-enough : goal.returns-clause-enough
returns-clause-enough c = by_all_parents

pub returns-clause-needed : goal.returns-clause-needed
returns-clause-needed c = in_each_parent
