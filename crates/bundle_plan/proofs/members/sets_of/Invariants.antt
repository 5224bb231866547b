-- the members so far
use Rattle.std.proofs.Common.{◌≡◌, ◌==◌, ℕ, [], length, get_or, filter, slice_index}
use Rattle.std.specs.List.{range_with_len}
use Rattle.bundle_plan.proofs.members.sets_of.Given as goal

abbrev pub invariant-loop-member : goal.invariant-loop-member
invariant-loop-member l = record {
  each : length l.sets.items ≡ length l.roots;
  sets : (root : ℕ) → get_or l.sets.items root [] ≡ filter (λ member. slice_index l.roots member == root) (range_with_len 0 l.member);
}
