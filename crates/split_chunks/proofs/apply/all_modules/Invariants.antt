use Rattle.std.proofs.Common.{◌≡◌, map}
use Rattle.std.specs.List.{range_with_len}
use Rattle.pk_types.specs.SplitPicks.{chunk_after}
use Rattle.split_chunks.specs.States.{state_of}
use Rattle.split_chunks.specs.Choices.{candidate_of}
use Rattle.split_chunks.proofs.apply.all_modules.Given as goal

abbrev pub invariant-loop-chunk : goal.invariant-loop-chunk
invariant-loop-chunk l = l.modules.items ≡ map (chunk_after (state_of l.state) (candidate_of l.choice) l.turn.split) (range_with_len 0 l.chunk)
