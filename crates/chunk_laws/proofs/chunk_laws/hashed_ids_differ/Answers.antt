use Rattle.pk_types.proofs.IdLaws.{hashed_ids_differ}
use Rattle.chunk_laws.proofs.chunk_laws.hashed_ids_differ.Goals as goal

pub returns : goal.returns
returns c = hashed_ids_differ
