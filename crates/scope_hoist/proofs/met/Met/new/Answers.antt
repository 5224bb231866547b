use Rattle.edge_search.proofs.Marking.{none_marked}
use Rattle.scope_hoist.proofs.met.Met.new.Goals as goal

pub invariant_of-result : goal.invariant_of-result
invariant_of-result c = rw (c.new.ensures.items, c.new-2.ensures.items) none_marked
