use Rattle.pk_types.proofs.HoistLaws.{together}
use Rattle.chunk_laws.proofs.chunk_laws.two_sets_are_one_together.Goals as goal

pub returns : goal.returns
returns c = together
