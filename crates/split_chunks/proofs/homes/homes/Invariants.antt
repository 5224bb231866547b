use Rattle.std.proofs.Common.{◌≡◌, ℕ, [], length, get_or, filter}
use Rattle.std.specs.List.{range_with_len}
use Rattle.pk_types.specs.Numbers.{has}
use Rattle.split_chunks.proofs.homes.homes.Given as goal

abbrev pub invariant-loop-chunk : goal.invariant-loop-chunk
invariant-loop-chunk l = record {
  each : length l.homes.items ≡ l.count;
  chunks : (member : ℕ) → get_or l.homes.items member [] ≡ filter (λ chunk. has (get_or l.modules chunk []) member) (range_with_len 0 l.chunk);
}
