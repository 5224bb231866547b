use Rattle.pk_types.proofs.IdLaws.{natural_ids_differ}
use Rattle.chunk_laws.proofs.chunk_laws.natural_ids_differ.Goals as goal

pub returns : goal.returns
returns c = natural_ids_differ
