-- what the first modules spell
use Rattle.std.proofs.Common.{◌≡◌}
use Rattle.scope_getters.specs.Gaining.{Gains, Below, IsOfModule}
use Rattle.scope_getters.proofs.cells.add_modules.Given as goal

abbrev pub invariant-loop-from : goal.invariant-loop-from
invariant-loop-from l = record {
  same : l.speller ≡ l.fn.speller;
  gains : Gains l.fn.cells.keys (Below l.from (IsOfModule l.fn.speller l.active)) l.cells.keys;
}
