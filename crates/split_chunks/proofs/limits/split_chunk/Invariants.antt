use Rattle.std.proofs.Common.{◌≡◌, ◌<◌, ℕ, false, get_or}
use Rattle.split_chunks.specs.States.{state_of}
use Rattle.split_chunks.specs.Choices.{candidate_of}
use Rattle.split_chunks.specs.Turns.{holds_just}
use Rattle.split_chunks.proofs.limits.split_chunk.Given as goal

abbrev pub invariant-loop-chunk : goal.invariant-loop-chunk
invariant-loop-chunk l = (k : ℕ) → k < l.chunk-index → holds_just (state_of l.state) (candidate_of l.choice) (get_or l.choice.chunks.now k 0) ≡ false
