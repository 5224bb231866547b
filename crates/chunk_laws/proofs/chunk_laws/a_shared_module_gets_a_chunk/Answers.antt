use Rattle.pk_types.proofs.SplitRows.{shared_is_split}
use Rattle.chunk_laws.proofs.chunk_laws.a_shared_module_gets_a_chunk.Goals as goal

pub returns : goal.returns
returns c = shared_is_split
