use Rattle.pk_types.proofs.HoistLaws.{reached_inside}
use Rattle.chunk_laws.proofs.chunk_laws.a_set_is_reached_from_its_root.Goals as goal

pub returns : goal.returns
returns c = reached_inside
