use Rattle.pk_types.proofs.NameRows.{numbers_go_round, digits_are_five}
use Rattle.chunk_laws.proofs.chunk_laws.taken_numbers_give_way_upwards.Goals as goal

pub returns : goal.returns
returns c = (numbers_go_round, digits_are_five)
