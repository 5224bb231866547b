use Rattle.std.proofs.Common.{◌≡◌, map, take}
use Rattle.pk_types.specs.SplitPicks.{loads_after}
use Rattle.split_chunks.specs.States.{state_of}
use Rattle.split_chunks.specs.Choices.{candidate_of}
use Rattle.split_chunks.proofs.apply.all_loads.Given as goal

abbrev pub invariant-loop-loads : goal.invariant-loop-loads
invariant-loop-loads l = l.all.items ≡ map (loads_after (state_of l.state) (candidate_of l.choice) l.turn.split) (take l.loads-index l.state.loads.items)
