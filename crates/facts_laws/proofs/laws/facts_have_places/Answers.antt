use Rattle.facts_laws.proofs.Places.{has_places}
use Rattle.facts_laws.proofs.laws.facts_have_places.Goals as goal

pub returns : goal.returns
returns c = has_places
