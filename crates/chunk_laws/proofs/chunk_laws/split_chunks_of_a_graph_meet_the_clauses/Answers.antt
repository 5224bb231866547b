use Rattle.pk_types.proofs.GroupChunks.{graph_chunks_meet}
use Rattle.chunk_laws.proofs.chunk_laws.split_chunks_of_a_graph_meet_the_clauses.Goals as goal

pub returns : goal.returns
returns c = graph_chunks_meet
