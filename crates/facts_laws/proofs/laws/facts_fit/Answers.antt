use Rattle.facts_laws.proofs.Whole.{facts_fit}
use Rattle.facts_laws.proofs.laws.facts_fit.Goals as goal

pub returns : goal.returns
returns c = facts_fit
