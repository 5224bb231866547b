use Rattle.std.proofs.Common.{◌≡◌, ◌≤◌, length}
use Rattle.pk_types.specs.declared.limits.TheConstants.{MAX_MODULES}
use Rattle.module_graph.specs.Known.{with_paths, numbers_in}
use Rattle.module_graph.proofs.sighting.see.Given as goal

abbrev pub invariant-loop-path : goal.invariant-loop-path
invariant-loop-path l = record {
  known : l.known.keys ≡ with_paths l.fn.known.keys l.yielded;
  numbers : l.numbers.items ≡ numbers_in (with_paths l.fn.known.keys l.yielded) l.yielded;
  few : length l.known.keys ≤ MAX_MODULES;
}
