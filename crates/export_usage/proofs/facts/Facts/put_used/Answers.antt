use Rattle.export_usage.proofs.Learning.{learns_used}
use Rattle.export_usage.proofs.facts.Facts.put_used.Goals as goal

pub returns : goal.returns
returns c = learns_used c.args.self.now c.number_of.new.self c.put.new.self c.args.module c.args.name.now c.in_ok-number.number c.in_ok-number.ensures c.in_ok-put.ensures
