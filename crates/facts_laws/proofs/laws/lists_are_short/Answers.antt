use Rattle.facts_laws.proofs.Short.{has_short_lists}
use Rattle.facts_laws.proofs.laws.lists_are_short.Goals as goal

pub returns : goal.returns
returns c = has_short_lists
