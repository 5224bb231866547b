use Rattle.pk_types.proofs.SplitLaws.{chunks_in_range, modules_in_range}
use Rattle.pk_types.proofs.PickLaws.{holds_each}
use Rattle.chunk_laws.proofs.chunk_laws.candidates_are_in_range.Goals as goal

pub returns : goal.returns
returns c = λ graph config state candidate is. (chunks_in_range graph config state candidate is, modules_in_range graph config state candidate is, holds_each graph config state candidate is)
