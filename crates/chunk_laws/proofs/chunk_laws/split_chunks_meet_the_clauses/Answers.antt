use Rattle.pk_types.proofs.SplitClauses.{split_meets}
use Rattle.chunk_laws.proofs.chunk_laws.split_chunks_meet_the_clauses.Goals as goal

pub returns : goal.returns
returns c = split_meets
