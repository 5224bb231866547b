use Rattle.std.proofs.Common.{subst}
use Rattle.module_graph.specs.Soundness.{IsSound}
use Rattle.module_graph.proofs.Builds.{labels_so_far, fits_so_far, order_so_far}
use Rattle.module_graph.proofs.builder.GraphBuilder.next_wanted.Goals as goal

pub returns-then-wanted-len-clause-labels : goal.returns-then-wanted-len-clause-labels
returns-then-wanted-len-clause-labels c = labels_so_far _ (subst IsSound c.self.view_is c.self.invariant)

pub returns-then-wanted-len-clause-fits : goal.returns-then-wanted-len-clause-fits
returns-then-wanted-len-clause-fits c = fits_so_far _ (subst IsSound c.self.view_is c.self.invariant)

pub returns-then-wanted-len-clause-order : goal.returns-then-wanted-len-clause-order
returns-then-wanted-len-clause-order c = order_so_far _ (subst IsSound c.self.view_is c.self.invariant)

pub returns-else-wanted-len-clause-labels : goal.returns-else-wanted-len-clause-labels
returns-else-wanted-len-clause-labels c = labels_so_far _ (subst IsSound c.self.view_is c.self.invariant)

pub returns-else-wanted-len-clause-fits : goal.returns-else-wanted-len-clause-fits
returns-else-wanted-len-clause-fits c = fits_so_far _ (subst IsSound c.self.view_is c.self.invariant)

pub returns-else-wanted-len-clause-order : goal.returns-else-wanted-len-clause-order
returns-else-wanted-len-clause-order c = order_so_far _ (subst IsSound c.self.view_is c.self.invariant)
