use Rattle.pk_types.proofs.SplitRows.{folder_is_split}
use Rattle.chunk_laws.proofs.chunk_laws.packages_are_picked_first.Goals as goal

pub returns : goal.returns
returns c = folder_is_split
