-- the search so far, of the same graph, and what is left of it
use Rattle.std.proofs.Common.{◌≡◌}
use Rattle.export_names.specs.Searching.{pairs}
use Rattle.export_names.proofs.Searching.{IsSearch, left_over}
use Rattle.export_names.proofs.resolver.Resolver.resolve.Given as goal

abbrev pub invariant-steps : goal.invariant-steps
invariant-steps l = record {
  same : l.self ≡ l.fn.self;
  search : IsSearch l.fn.self l.module l.name (pairs l.visited.keys) l.step l.waiting.items;
}

abbrev pub decreases-steps : goal.decreases-steps
decreases-steps l = left_over l.fn.self l.name (pairs l.visited.keys) l.step l.waiting.items
