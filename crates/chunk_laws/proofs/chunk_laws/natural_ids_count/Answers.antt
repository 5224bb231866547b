use Rattle.pk_types.proofs.NameRows.{shared_ids_are_natural}
use Rattle.chunk_laws.proofs.chunk_laws.natural_ids_count.Goals as goal

pub returns : goal.returns
returns c = shared_ids_are_natural
