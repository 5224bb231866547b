-- no fault stands in the modules so far
use Rattle.std.proofs.Common.{◌≡◌, ◌<◌}
use Rattle.export_faults.specs.declared.fault.ExportFault.{ExportFault}
use Rattle.export_faults.specs.Faults.{Stands}
use Rattle.export_faults.proofs.search.first_fault.Given as goal

abbrev pub invariant-loop-module : goal.invariant-loop-module
invariant-loop-module l = record {
  graph : l.resolver ≡ l.graph;
  none : (fault : ExportFault) → Stands l.graph fault → fault.module < l.module → ⊥;
}
