use Rattle.std.proofs.Common.{◌≡◌, map, take}
use Rattle.pk_types.specs.Splitting.{list_of}
use Rattle.split_chunks.specs.States.{state_of}
use Rattle.split_chunks.proofs.chunks.lists.Given as goal

abbrev pub invariant-loop-loads : goal.invariant-loop-loads
invariant-loop-loads l = l.lists.items ≡ map (list_of (state_of l.state)) (take l.loads-index l.state.loads.items)
