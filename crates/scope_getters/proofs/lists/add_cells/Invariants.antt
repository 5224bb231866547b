-- the names of the first bindings that are among the cells were added
use Rattle.std.proofs.Common.{◌≡◌, ◌++◌, map, filter}
use Rattle.std.specs.List.{list_any, range_with_len}
use Rattle.module_spelling.specs.Layout.{name_of}
use Rattle.scope_getters.specs.Scopes.{is_cell}
use Rattle.scope_getters.proofs.lists.add_cells.Given as goal

abbrev pub invariant-loop-place : goal.invariant-loop-place
invariant-loop-place l =
    l.list.items ≡ l.fn.list.items ++ map (name_of l.speller l.member) (filter (λ place. list_any (is_cell (l.member, place)) l.cells.keys) (range_with_len 0 l.place))
