use Rattle.pk_types.proofs.OneHoist.{one_hoisting}
use Rattle.chunk_laws.proofs.chunk_laws.there_is_one_way_to_hoist.Goals as goal

pub returns : goal.returns
returns c = one_hoisting
