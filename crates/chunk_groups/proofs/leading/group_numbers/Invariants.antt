-- the modules so far
use Rattle.std.proofs.Common.{◌≡◌, length}
use Rattle.chunk_groups.specs.Gathered.{AreGroupNumbers}
use Rattle.chunk_groups.proofs.leading.group_numbers.Given as goal

abbrev pub invariant-loop-place : goal.invariant-loop-place
invariant-loop-place l = record {
  each : length l.numbers.items ≡ l.count;
  numbers : AreGroupNumbers l.entries l.imported l.place l.numbers.items;
}
