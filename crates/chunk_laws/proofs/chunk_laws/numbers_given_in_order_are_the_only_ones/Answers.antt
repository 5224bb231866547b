use Rattle.pk_types.proofs.OneWalk.{one_numbering}
use Rattle.chunk_laws.proofs.chunk_laws.numbers_given_in_order_are_the_only_ones.Goals as goal

pub returns : goal.returns
returns c = one_numbering
