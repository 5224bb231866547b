use Rattle.pk_types.proofs.PickedOnce.{moves_some, picked_once}
use Rattle.chunk_laws.proofs.chunk_laws.each_pick_moves_other_modules.Goals as goal

pub returns : goal.returns
returns c = λ graph config first last picks are. (moves_some graph config first last picks are, picked_once graph config first last picks are)
