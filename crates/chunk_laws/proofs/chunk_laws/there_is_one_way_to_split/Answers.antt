use Rattle.pk_types.proofs.OnePick.{one_split}
use Rattle.chunk_laws.proofs.chunk_laws.there_is_one_way_to_split.Goals as goal

pub returns : goal.returns
returns c = one_split
