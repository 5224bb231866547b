use Rattle.pk_types.proofs.NameLaws.{names_apart}
use Rattle.chunk_laws.proofs.chunk_laws.given_names_differ.Goals as goal

pub returns : goal.returns
returns c = names_apart
