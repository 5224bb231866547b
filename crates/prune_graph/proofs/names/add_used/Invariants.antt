-- what the names that were gone through are passed on to, in the same graph
use Rattle.std.proofs.Common.{◌≡◌, take}
use Rattle.prune_graph.specs.Gathering.{Gains}
use Rattle.prune_graph.specs.PassedNames.{OnePassesOn, OneExportsSpace}
use Rattle.prune_graph.proofs.names.add_used.Given as goal

abbrev pub invariant-loop-exported : goal.invariant-loop-exported
invariant-loop-exported l = record {
  same : l.stops ≡ l.fn.stops;
  gains : Gains l.fn.through (OnePassesOn l.fn.stops l.module l.row (take l.exported-index l.used)) (OneExportsSpace l.row (take l.exported-index l.used)) l.through;
}
