use Rattle.pk_types.proofs.HoistLaws.{each_reached}
use Rattle.chunk_laws.proofs.chunk_laws.each_set_is_reached_from_its_root.Goals as goal

pub returns : goal.returns
returns c = each_reached
