use Rattle.pk_types.proofs.IdLaws.{given_apart, given_below}
use Rattle.chunk_laws.proofs.chunk_laws.numbers_given_in_order_differ.Goals as goal

pub returns : goal.returns
returns c = λ starts numbers given place inside. (given_below starts numbers given place inside, λ other before within. given_apart starts numbers given place other before within)
