use Rattle.facts_laws.proofs.Whole.{is_lawful}
use Rattle.facts_laws.proofs.laws.facts_are_lawful.Goals as goal

pub returns : goal.returns
returns c source facts outlined no_fault are = is_lawful source facts are outlined no_fault
