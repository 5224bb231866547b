-- the members so far
use Rattle.std.proofs.Common.{◌≡◌, ◌==◌, filter, slice_index}
use Rattle.std.specs.List.{range_with_len}
use Rattle.hoist_rename.proofs.naming.members.Given as goal

abbrev pub invariant-loop-member : goal.invariant-loop-member
invariant-loop-member l = l.members.items ≡ filter (λ member. slice_index l.roots member == l.root) (range_with_len 0 l.member)
