-- the search so far, of the same graph, and what is left of it
use Rattle.std.proofs.Common.{◌≡◌}
use Rattle.export_names.specs.Searching.{pairs}
use Rattle.stop_search.specs.Searching.{asks}
use Rattle.stop_search.proofs.Searching.{IsSearch, left_over}
use Rattle.stop_search.proofs.search.follow_all.Given as goal

abbrev pub invariant-loop-asked : goal.invariant-loop-asked
invariant-loop-asked l = record {
  same : l.resolver ≡ l.fn.resolver;
  search : IsSearch l.fn.resolver l.found l.module l.name (pairs l.visited.keys) (asks l.waiting.items) l.stops.items;
}

abbrev pub decreases-loop-asked : goal.decreases-loop-asked
decreases-loop-asked l = left_over l.fn.resolver l.name (pairs l.visited.keys) (asks l.waiting.items)
