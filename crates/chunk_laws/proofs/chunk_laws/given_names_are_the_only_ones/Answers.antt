use Rattle.pk_types.proofs.OneWalk.{one_naming}
use Rattle.chunk_laws.proofs.chunk_laws.given_names_are_the_only_ones.Goals as goal

pub returns : goal.returns
returns c = one_naming
