-- the numbers that were passed are taken
use Rattle.std.proofs.Common.{ℕ, ◌+◌, ◌-◌, ◌%◌, ◌<◌, ◌≤◌, length}
use Rattle.std.specs.List.{Contains}
use Rattle.pk_types.specs.ModuleIds.{id_count}
use Rattle.id_assign.proofs.taken.next_free.Given as goal

abbrev pub invariant-loop-steps : goal.invariant-loop-steps
invariant-loop-steps l = (l.steps ≤ length l.taken.keys)
    × ((fewer : ℕ) → fewer < l.steps → Contains l.taken.keys ((l.start + fewer) % id_count))

abbrev pub decreases-loop-steps : goal.decreases-loop-steps
decreases-loop-steps l = length l.taken.keys - l.steps
