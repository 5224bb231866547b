-- what is used of the modules that were gone through
use Rattle.std.proofs.Common.{◌≡◌, ◌↔◌, ℕ, ◌<◌, List, false, Some, slice_get, Contains, length, get_or}
use Rattle.pk_types.specs.ExportedNames.{AreInByteOrder}
use Rattle.prune_graph.specs.Gathering.{IsNamed}
use Rattle.export_usage.proofs.reading.read.Given as goal

abbrev pub invariant-loop-module : goal.invariant-loop-module
invariant-loop-module l = record {
  each_names : length l.names.items ≡ l.module;
  each_whole : length l.whole.items ≡ l.module;
  names : (k : ℕ) (list : List (List ℕ)) → slice_get l.names.items k ≡ Some list
      → AreInByteOrder list × ((name : List ℕ) → Contains list name ↔ IsNamed l.through k name);
  whole : (k : ℕ) → k < l.module → get_or l.whole.items k false ≡ get_or l.through.spaces.items k false;
}
