use Rattle.pk_types.proofs.SplitRows.{unsplit_are_split}
use Rattle.chunk_laws.proofs.chunk_laws.limits_of_requests_hold.Goals as goal

pub returns : goal.returns
returns c = unsplit_are_split
