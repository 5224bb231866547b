-- what goes through the requests that were gone through
use Rattle.std.proofs.Common.{◌≡◌}
use Rattle.scope_getters.specs.Gaining.{Gains, Below, IsOfRequest}
use Rattle.scope_getters.proofs.cells.add_row.Given as goal

abbrev pub invariant-loop-request : goal.invariant-loop-request
invariant-loop-request l = record {
  same : l.speller ≡ l.fn.speller;
  gains : Gains l.fn.cells.keys (Below l.request (IsOfRequest l.fn.speller l.from l.through l.row.targets)) l.cells.keys;
}
