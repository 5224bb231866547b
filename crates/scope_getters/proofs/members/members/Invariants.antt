-- each set has those of the first modules that are its own
use Rattle.std.proofs.Common.{◌≡◌, ℕ, ◌==◌, Some, length, filter, slice_get, slice_index}
use Rattle.std.specs.List.{range_with_len}
use Rattle.scope_getters.proofs.members.members.Given as goal

abbrev pub invariant-loop-member : goal.invariant-loop-member
invariant-loop-member l = record {
  each : length l.sets.items ≡ length l.speller.graph.rows;
  sets : (root : ℕ) (set : _) → slice_get l.sets.items root ≡ Some set
      → set.items ≡ filter (λ member. slice_index l.speller.roots member == root) (range_with_len 0 l.member);
}
