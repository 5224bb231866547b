use Rattle.export_names.proofs.Once.{resolves_once}
use Rattle.export_names.proofs.law.resolves_to_one.Goals as goal

pub returns : goal.returns
returns c graph number name found other one two = resolves_once graph number name found other one two
