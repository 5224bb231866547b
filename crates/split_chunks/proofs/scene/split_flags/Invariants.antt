use Rattle.std.proofs.Common.{◌≡◌, ℕ, false, length, get_or, take}
use Rattle.std.specs.List.{list_any}
use Rattle.pk_types.specs.Numbers.{has}
use Rattle.pk_types.specs.SplitStates.{chunk_at}
use Rattle.split_chunks.specs.States.{state_of}
use Rattle.split_chunks.proofs.scene.split_flags.Given as goal

abbrev pub invariant-loop-chunk : goal.invariant-loop-chunk
invariant-loop-chunk l = record {
  each : length l.flags.items ≡ l.count;
  flags : (member : ℕ) → get_or l.flags.items member false ≡ list_any (λ chunk. has (chunk_at (state_of l.state) chunk) member) (take l.chunk-index l.state.split.items);
}
