use Rattle.std.proofs.Common.{◌≡◌, map}
use Rattle.std.specs.List.{range_with_len}
use Rattle.pk_types.specs.SplitStates.{own_chunks}
use Rattle.split_chunks.proofs.state.first.Given as goal

abbrev pub invariant-loop-group : goal.invariant-loop-group
invariant-loop-group l = l.loads.items ≡ map (own_chunks l.entries l.placed.items) (range_with_len 0 l.group)
