use Rattle.pk_types.proofs.OnePick.{some_chunk}
use Rattle.chunk_laws.proofs.chunk_laws.each_candidate_has_a_split_chunk.Goals as goal

pub returns : goal.returns
returns c = some_chunk
