-- the scopes so far
use Rattle.std.proofs.Common.{◌≡◌, map}
use Rattle.std.specs.List.{range_with_len}
use Rattle.plan_core.specs.Scopes.{scope_items}
use Rattle.plan_core.proofs.scopes.own_scopes.Given as goal

abbrev pub invariant-loop-number : goal.invariant-loop-number
invariant-loop-number l = record {
  root : l.root.items ≡ range_with_len 0 l.number;
  items : l.items.items ≡ map (scope_items l.edges) (range_with_len 0 l.number);
}
