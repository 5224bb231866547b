-- the groups so far
use Rattle.chunk_groups.specs.Gathered.{IsGathered, HasGroupAt}
use Rattle.chunk_groups.proofs.leading.add_groups.Given as goal

abbrev pub invariant-loop-target : goal.invariant-loop-target
invariant-loop-target l = IsGathered l.initial.groups.items (HasGroupAt l.numbers l.targets) l.target-index l.groups.items
