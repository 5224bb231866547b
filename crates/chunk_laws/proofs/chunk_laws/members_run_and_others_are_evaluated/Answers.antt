use Rattle.pk_types.proofs.ItemLaws.{by_kind}
use Rattle.chunk_laws.proofs.chunk_laws.members_run_and_others_are_evaluated.Goals as goal

pub returns : goal.returns
returns c = by_kind
