use Rattle.pk_types.proofs.NameLaws.{set_names_apart}
use Rattle.chunk_laws.proofs.chunk_laws.names_in_a_set_differ.Goals as goal

pub returns : goal.returns
returns c = set_names_apart
