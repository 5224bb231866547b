use Rattle.std.proofs.Common.{[]}
use Rattle.pk_types.proofs.ItemLaws.{root_last}
use Rattle.chunk_laws.proofs.chunk_laws.the_root_runs_last.Goals as goal

pub returns : goal.returns
returns c = λ active members root items are. root_last active members [] are.0 root items are.1
