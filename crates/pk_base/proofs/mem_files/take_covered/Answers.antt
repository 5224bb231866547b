use Rattle.std.proofs.Common.{arith}
use Rattle.pk_base.proofs.Columns.{taken_over}
use Rattle.pk_base.proofs.mem_files.take_covered.Goals as goal

pub returns-clause-held : goal.returns-clause-held
returns-clause-held c = taken_over c.args.paths.now c.args.listed.now c.args.next.items c.args.present.now.items c.loop-n.present.items (λ k within. c.loop-n.invariant.done k (omega arith))
