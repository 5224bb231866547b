use Rattle.std.proofs.Common.{◌≡◌, length, sym, subst}
use Rattle.pk_types.specs.Fitting.{Fits}
use Rattle.module_graph.specs.ModuleOrder.{IsModuleOrder}
use Rattle.module_graph.proofs.ByPath.{is_module_graph}
use Rattle.module_graph.proofs.Builds.{fits_so_far, order_so_far, all_so_far}
use Rattle.module_graph.proofs.builder.GraphBuilder.finish.Goals as goal

pub returns-clause-fits : goal.returns-clause-fits
returns-clause-fits c =
    let all = subst (λ b. length b.rows ≡ length b.known) (sym c.self.view_is) c.requires in
    subst Fits (all_so_far _ all c.from_vec.result c.from_vec-2.result c.from_vec.ensures c.from_vec-2.ensures) (fits_so_far _ c.self.invariant)

pub returns-clause-order : goal.returns-clause-order
returns-clause-order c =
    let all = subst (λ b. length b.rows ≡ length b.known) (sym c.self.view_is) c.requires in
    subst IsModuleOrder (all_so_far _ all c.from_vec.result c.from_vec-2.result c.from_vec.ensures c.from_vec-2.ensures) (order_so_far _ c.self.invariant)

pub returns-clause-graph : goal.returns-clause-graph
returns-clause-graph c = λ entries leads leading.
    is_module_graph entries leads (record { rows = c.from_vec.result; entries = c.from_vec-2.result }) leading (returns-clause-fits c).labels (returns-clause-order c)
