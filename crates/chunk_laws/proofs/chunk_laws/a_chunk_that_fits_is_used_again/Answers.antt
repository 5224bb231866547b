use Rattle.pk_types.proofs.SplitRows.{reused_is_split}
use Rattle.chunk_laws.proofs.chunk_laws.a_chunk_that_fits_is_used_again.Goals as goal

pub returns : goal.returns
returns c = reused_is_split
