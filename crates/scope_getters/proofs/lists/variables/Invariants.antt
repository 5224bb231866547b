-- what the first members declare
use Rattle.std.proofs.Common.{◌≡◌, take, flat_map}
use Rattle.scope_getters.specs.Scopes.{module_variables}
use Rattle.scope_getters.proofs.lists.variables.Given as goal

abbrev pub invariant-loop-member : goal.invariant-loop-member
invariant-loop-member l = l.variables.items ≡ flat_map (module_variables l.speller) (take l.member-index l.members)
