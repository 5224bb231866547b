use Rattle.pk_types.proofs.SplitLaws.{none_left}
use Rattle.chunk_laws.proofs.chunk_laws.nothing_qualifies_after_the_last_pick.Goals as goal

pub returns : goal.returns
returns c = none_left
