use Rattle.std.proofs.Common.{refl}
use Rattle.es_refusals.proofs.Gathered.{one_arguments}
use Rattle.es_refusals.proofs.names.add_arguments.Goals as goal

pub returns : goal.returns
returns c = one_arguments c.args.names.now.keys c.insert.new.self.keys _ c.args.is_given c.in_ok-insert.ensures.keys refl c.if-not-is_given.false
