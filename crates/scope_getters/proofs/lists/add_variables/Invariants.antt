-- the first bindings were added
use Rattle.std.proofs.Common.{◌≡◌, ◌++◌, take}
use Rattle.scope_getters.specs.Scopes.{variables_of}
use Rattle.scope_getters.proofs.lists.add_variables.Given as goal

abbrev pub invariant-loop-place : goal.invariant-loop-place
invariant-loop-place l = l.variables.items ≡ l.fn.variables.items ++ variables_of (take l.place l.bindings) l.names
