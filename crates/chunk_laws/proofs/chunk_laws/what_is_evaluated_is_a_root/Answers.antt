use Rattle.pk_types.proofs.HoistLaws.{evaluated_root}
use Rattle.chunk_laws.proofs.chunk_laws.what_is_evaluated_is_a_root.Goals as goal

pub returns : goal.returns
returns c = evaluated_root
