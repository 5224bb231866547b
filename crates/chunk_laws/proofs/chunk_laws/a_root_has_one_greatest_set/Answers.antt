use Rattle.pk_types.proofs.HoistLaws.{one_greatest}
use Rattle.chunk_laws.proofs.chunk_laws.a_root_has_one_greatest_set.Goals as goal

pub returns : goal.returns
returns c = one_greatest
