-- the leads so far
use Rattle.std.proofs.Common.{◌≡◌, ℕ, ◌<◌, [], length, get_or}
use Rattle.pk_types.specs.ChunkGroups.{AreAll}
use Rattle.chunk_groups.specs.Gathered.{LeadsAt}
use Rattle.chunk_groups.proofs.grouping.leads.Given as goal

abbrev pub invariant-loop-modules : goal.invariant-loop-modules
invariant-loop-modules l = record {
  each : length l.leads.items ≡ l.modules-index;
  lists : (k : ℕ) → k < l.modules-index → AreAll (λ next. (place : ℕ) × (place < length (get_or l.closures k [])) × LeadsAt l.numbers l.imports (get_or l.closures k []) place next)
      (get_or l.leads.items k []);
}
