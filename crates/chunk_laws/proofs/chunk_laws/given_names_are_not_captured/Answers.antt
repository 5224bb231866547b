use Rattle.pk_types.proofs.NameLaws.{none_captured_in_set}
use Rattle.chunk_laws.proofs.chunk_laws.given_names_are_not_captured.Goals as goal

pub returns : goal.returns
returns c = none_captured_in_set
