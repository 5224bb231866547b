-- the targets so far
use Rattle.std.proofs.Common.{◌≡◌, [], true, Some, slice_get}
use Rattle.chunk_groups.specs.Gathered.{IsGathered, ImportsAt}
use Rattle.chunk_groups.proofs.grouping.import_targets.Given as goal

abbrev pub invariant-loop-number : goal.invariant-loop-number
invariant-loop-number l = IsGathered [] (ImportsAt l.imports (λ k. slice_get l.marks k ≡ Some true)) l.number l.targets.items
