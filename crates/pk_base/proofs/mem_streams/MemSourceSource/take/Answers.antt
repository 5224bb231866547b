use Rattle.std.proofs.Common.{rules, arith}
use Rattle.std.proofs.lemmas.Grind.{common_steps}
use Rattle.pk_base.proofs.Pieces.{taken}
use Rattle.pk_base.proofs.mem_streams.MemSourceSource.take.Goals as goal

pub returns-clause-taken : goal.returns-clause-taken
returns-clause-taken c told = (taken c.args.self.now.bytes.items c.args.into.now c.copy_from_slice.new.self c.args.self.now.at c.min-n.result (search (rules, common_steps)) (grind (arith, common_steps)))
