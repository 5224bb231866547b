use Rattle.pk_types.proofs.NameRows.{names_are_given}
use Rattle.chunk_laws.proofs.chunk_laws.names_give_way.Goals as goal

pub returns : goal.returns
returns c = names_are_given
