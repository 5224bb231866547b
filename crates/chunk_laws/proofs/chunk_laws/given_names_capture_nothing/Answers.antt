use Rattle.pk_types.proofs.NameLaws.{none_captured}
use Rattle.chunk_laws.proofs.chunk_laws.given_names_capture_nothing.Goals as goal

pub returns : goal.returns
returns c = none_captured
