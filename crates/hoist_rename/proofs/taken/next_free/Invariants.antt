-- the name is taken with each number so far
use Rattle.std.proofs.Common.{ℕ, ◌-◌, ◌<◌, ◌≤◌, length}
use Rattle.std.specs.List.{Contains}
use Rattle.pk_types.specs.GivenNames.{numbered_name}
use Rattle.hoist_rename.proofs.taken.next_free.Given as goal

abbrev pub invariant-loop-alloc : goal.invariant-loop-alloc
invariant-loop-alloc l = (l.number ≤ length l.names.keys)
    × ((number : ℕ) → 0 < number → number ≤ l.number → Contains l.names.keys (numbered_name l.name number))

abbrev pub decreases-loop-alloc : goal.decreases-loop-alloc
decreases-loop-alloc l = length l.names.keys - l.number
