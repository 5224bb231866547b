use Rattle.std.proofs.Common.{length, arith, eq-eqb}
use Rattle.node_resolve.proofs.PathParts.{one_len_at}
use Rattle.node_resolve.proofs.request.part_len.Goals as goal

pub returns-then-text-at-eq47 : goal.returns-then-text-at-eq47
returns-then-text-at-eq47 c = one_len_at c.args.text.now c.loop-at.at (omega arith) c.loop-at.invariant (λ less. eq-eqb _ 47 c.if-text-at-eq47.true)

pub returns : goal.returns
returns c = one_len_at c.args.text.now (length c.args.text.now) (omega arith) (λ k less. c.loop-at.invariant k (omega arith)) (λ less. absurd (omega arith))
