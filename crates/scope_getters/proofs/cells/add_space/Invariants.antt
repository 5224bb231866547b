-- what the names stand for that were gone through
use Rattle.std.proofs.Common.{◌≡◌}
use Rattle.scope_getters.specs.Gaining.{Gains, Below, IsOfName}
use Rattle.scope_getters.proofs.cells.add_space.Given as goal

abbrev pub invariant-loop-name : goal.invariant-loop-name
invariant-loop-name l = record {
  same : l.speller ≡ l.fn.speller;
  gains : Gains l.fn.cells.keys (Below l.name-index (IsOfName l.fn.speller l.root l.root l.name-items)) l.cells.keys;
}
