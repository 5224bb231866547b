-- the stars that lead there, of those that were gone through
use Rattle.std.proofs.Common.{◌≡◌, ◌≤◌, length, take}
use Rattle.stop_search.proofs.Leading.{AreLeading}
use Rattle.stop_search.proofs.stars.leading.Given as goal

abbrev pub invariant-loop-star : goal.invariant-loop-star
invariant-loop-star l = record {
  each : AreLeading l.fn.resolver l.targets l.name l.found (take l.star-index l.stars) l.leading.items;
  few : length l.leading.items ≤ l.star-index;
  same : l.resolver ≡ l.fn.resolver;
}
