use Rattle.pk_types.proofs.SplitRows.{parents_are_split, agreeing_are_split}
use Rattle.chunk_laws.proofs.chunk_laws.small_modules_stay.Goals as goal

pub returns : goal.returns
returns c = (parents_are_split, agreeing_are_split)
