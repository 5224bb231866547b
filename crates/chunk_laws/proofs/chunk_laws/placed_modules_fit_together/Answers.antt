use Rattle.pk_types.proofs.GroupChunks.{placed_fit}
use Rattle.chunk_laws.proofs.chunk_laws.placed_modules_fit_together.Goals as goal

pub returns : goal.returns
returns c = placed_fit
