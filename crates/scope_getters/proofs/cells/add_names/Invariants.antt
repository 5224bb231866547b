-- what the names stand for that were gone through
use Rattle.std.proofs.Common.{◌≡◌}
use Rattle.prune_graph.specs.Gathering.{the_names}
use Rattle.scope_getters.specs.Gaining.{Gains, Below, IsOfName}
use Rattle.scope_getters.proofs.cells.add_names.Given as goal

abbrev pub invariant-loop-name : goal.invariant-loop-name
invariant-loop-name l = record {
  same : l.speller ≡ l.fn.speller;
  gains : Gains l.fn.cells.keys (Below l.name-index (IsOfName l.fn.speller l.from l.target (the_names l.names))) l.cells.keys;
}
