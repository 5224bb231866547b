-- the first fault of the exports so far
use Rattle.std.proofs.Common.{◌≡◌, ℕ, ◌<◌}
use Rattle.export_faults.specs.declared.fault.Asker.TheVariants.{Export}
use Rattle.export_faults.specs.Faults.{AreLeast, StandsIn}
use Rattle.export_faults.proofs.search.export_fault.Given as goal

abbrev pub invariant-loop-number : goal.invariant-loop-number
invariant-loop-number l = record {
  graph : l.resolver ≡ l.fn.resolver;
  first : AreLeast (λ fault. StandsIn l.fn.resolver l.module fault × ((place : ℕ) × (place < l.number) × (fault.asker ≡ Export place))) l.first;
}
