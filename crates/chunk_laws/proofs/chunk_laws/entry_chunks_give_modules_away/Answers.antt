use Rattle.pk_types.proofs.SplitRows.{entries_are_split}
use Rattle.chunk_laws.proofs.chunk_laws.entry_chunks_give_modules_away.Goals as goal

pub returns : goal.returns
returns c = entries_are_split
