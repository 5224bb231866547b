use Rattle.pk_types.proofs.GroupChunks.{graph_sets_reached}
use Rattle.chunk_laws.proofs.chunk_laws.sets_of_a_graph_are_reached_from_their_roots.Goals as goal

pub returns : goal.returns
returns c = graph_sets_reached
