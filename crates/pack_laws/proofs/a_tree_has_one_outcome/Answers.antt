use Rattle.pack_laws.proofs.OneOutcome.{outcome_once, bundle_once}
use Rattle.pack_laws.proofs.a_tree_has_one_outcome.Goals as goal

pub returns-clause-outcome : goal.returns-clause-outcome
returns-clause-outcome c = outcome_once

pub returns-clause-bundle : goal.returns-clause-bundle
returns-clause-bundle c = bundle_once
