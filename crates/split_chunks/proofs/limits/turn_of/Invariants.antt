use Rattle.std.proofs.Common.{◌≡◌, map}
use Rattle.std.specs.List.{range_with_len}
use Rattle.pk_types.specs.SplitPicks.{stays}
use Rattle.split_chunks.specs.States.{state_of}
use Rattle.split_chunks.specs.Choices.{candidate_of}
use Rattle.split_chunks.proofs.limits.turn_of.Given as goal

abbrev pub invariant-loop-chunk : goal.invariant-loop-chunk
invariant-loop-chunk l = l.stays.items ≡ map (stays (state_of l.state) (candidate_of l.choice) l.split) (range_with_len 0 l.chunk)
