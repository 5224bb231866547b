-- the names so far
use Rattle.std.proofs.Common.{◌≡◌, take, map}
use Rattle.hoist_rename.proofs.naming.copies.Given as goal

abbrev pub invariant-loop-binding : goal.invariant-loop-binding
invariant-loop-binding l = l.names.items ≡ map (λ binding. binding.name) (take l.binding-index l.bindings)
