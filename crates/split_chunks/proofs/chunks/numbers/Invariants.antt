use Rattle.std.proofs.Common.{◌≡◌, ◌≤◌, ◌<◌, ℕ, length, get_or}
use Rattle.pk_types.specs.Splitting.{chunk_number}
use Rattle.split_chunks.specs.States.{state_of}
use Rattle.split_chunks.proofs.chunks.numbers.Given as goal

abbrev pub invariant-loop-chunk : goal.invariant-loop-chunk
invariant-loop-chunk l = record {
  each : length l.numbers.items ≡ l.chunk;
  next : l.next ≡ chunk_number (state_of l.state) l.chunk;
  low : l.next ≤ l.chunk;
  counts : (k : ℕ) → k < l.chunk → get_or l.numbers.items k 0 ≡ chunk_number (state_of l.state) k;
}
