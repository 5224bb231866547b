use Rattle.pk_types.proofs.ItemLaws.{each_once}
use Rattle.chunk_laws.proofs.chunk_laws.each_module_stands_in_the_items_once.Goals as goal

pub returns : goal.returns
returns c = each_once
