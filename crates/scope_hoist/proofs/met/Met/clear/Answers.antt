use Rattle.std.proofs.Common.{subst, arith}
use Rattle.edge_search.specs.Marks.{AreMarked}
use Rattle.edge_search.proofs.Marking.{last_within, forgot_last}
use Rattle.scope_hoist.proofs.met.Met.clear.Goals as goal

pub index_mut-requires : goal.index_mut-requires
index_mut-requires c =
    let are = subst (λ met. AreMarked c.loop-node.self-inside.marks.items met) c.in-Some.ensures.items c.loop-node.invariant in
    let h = last_within c.loop-node.self-inside.marks.items c.pop.new.self.items c.in-Some.node are in
    omega (arith, h, c.loop-node.self-inside.marks.ok)

pub loop-node-preserved : goal.loop-node-preserved
loop-node-preserved c =
    let are = subst (λ met. AreMarked c.loop-node.self-inside.marks.items met) c.in-Some.ensures.items c.loop-node.invariant in
    forgot_last c.loop-node.self-inside.marks.items c.pop.new.self.items c.in-Some.node are (last_within c.loop-node.self-inside.marks.items c.pop.new.self.items c.in-Some.node are)
