-- what waits and what is still to wait are what shall wait
use Rattle.std.proofs.Common.{◌≡◌, ◌++◌, length}
use Rattle.pk_types.specs.Places.{ArePlacesIn}
use Rattle.stop_search.specs.Searching.{asks, stack_of}
use Rattle.stop_search.proofs.search.ask_later.Given as goal

abbrev pub invariant-loop-star : goal.invariant-loop-star
invariant-loop-star l = record {
  waiting : asks l.waiting.items ++ stack_of l.targets l.name l.stars.items ≡ asks l.initial.waiting.items ++ stack_of l.targets l.name l.initial.stars.items;
  places : ArePlacesIn l.targets l.stars.items;
}

abbrev pub decreases-loop-star : goal.decreases-loop-star
decreases-loop-star l = length l.stars.items
