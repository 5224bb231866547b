-- the names of the first members
use Rattle.std.proofs.Common.{◌≡◌, take, flat_map}
use Rattle.scope_getters.specs.Scopes.{module_cells}
use Rattle.scope_getters.proofs.lists.cell_names.Given as goal

abbrev pub invariant-loop-member : goal.invariant-loop-member
invariant-loop-member l = l.names.items ≡ flat_map (module_cells l.speller l.cells.keys) (take l.member-index l.members)
