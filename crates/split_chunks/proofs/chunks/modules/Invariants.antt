use Rattle.std.proofs.Common.{◌≡◌, map, filter}
use Rattle.std.specs.List.{range_with_len}
use Rattle.pk_types.specs.SplitStates.{chunk_at, is_there}
use Rattle.split_chunks.specs.States.{state_of}
use Rattle.split_chunks.proofs.chunks.modules.Given as goal

abbrev pub invariant-loop-chunk : goal.invariant-loop-chunk
invariant-loop-chunk l = l.modules.items ≡ map (chunk_at (state_of l.state)) (filter (is_there (state_of l.state)) (range_with_len 0 l.chunk))
