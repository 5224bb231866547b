use Rattle.pk_types.proofs.Indirect.{indirect_finds}
use Rattle.graph_laws.proofs.uses.indirect_exports_find.Goals as goal

pub returns : goal.returns
returns c = indirect_finds
