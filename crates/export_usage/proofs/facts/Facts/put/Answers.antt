use Rattle.std.proofs.Common.{refl}
use Rattle.export_usage.proofs.SameFact.{is_put}
use Rattle.export_usage.proofs.facts.Facts.put.Goals as goal

pub returns : goal.returns
returns c = is_put c.args.self.now _ c.args.fact c.in_ok-insert.ensures.keys refl
