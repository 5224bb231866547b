use Rattle.std.proofs.Common.{arith}
use Rattle.plan_core.proofs.Keeping.{ends}
use Rattle.plan_core.proofs.edges.active_edges.Goals as goal

pub returns : goal.returns
returns c = ends c.args.reached.now c.args.edges.items c.loop-number.edges.items c.loop-number.number c.loop-number.invariant (omega (arith, c.loop-number-test.false, c.requires))
