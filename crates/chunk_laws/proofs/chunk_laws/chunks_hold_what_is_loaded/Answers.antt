use Rattle.pk_types.proofs.GroupChunks.{chunks_hold_loaded}
use Rattle.chunk_laws.proofs.chunk_laws.chunks_hold_what_is_loaded.Goals as goal

pub returns : goal.returns
returns c = chunks_hold_loaded
