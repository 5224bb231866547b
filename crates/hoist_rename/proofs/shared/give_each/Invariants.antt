-- the names of the bindings so far
use Rattle.std.proofs.Common.{◌≡◌, ◌++◌, take, map}
use Rattle.pk_types.specs.GivenNames.{GivesInOrder}
use Rattle.hoist_rename.specs.Kept.{IsKept}
use Rattle.hoist_rename.proofs.shared.give_each.Given as goal

abbrev pub invariant-loop-binding : goal.invariant-loop-binding
invariant-loop-binding l = GivesInOrder l.fn.taken.names.keys (map (λ binding. binding.name) (take l.binding-index l.bindings)) l.names.items
    × (l.taken.names.keys ≡ l.fn.taken.names.keys ++ l.names.items)
    × IsKept l.taken.names.keys l.taken.last.items
