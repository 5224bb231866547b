-- what is spelled in the lists of the first modules
use Rattle.std.proofs.Common.{◌≡◌}
use Rattle.scope_getters.specs.Gaining.{Gains, Below, IsOfSpace}
use Rattle.scope_getters.proofs.cells.add_spaces.Given as goal

abbrev pub invariant-loop-root : goal.invariant-loop-root
invariant-loop-root l = record {
  same : l.speller ≡ l.fn.speller;
  gains : Gains l.fn.cells.keys (Below l.root (IsOfSpace l.fn.speller l.spaces)) l.cells.keys;
}
