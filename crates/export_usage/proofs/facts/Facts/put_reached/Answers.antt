use Rattle.export_usage.specs.declared.facts.Fact.TheVariants.{Reached}
use Rattle.export_usage.specs.Claims.{Claim}
use Rattle.export_usage.proofs.Learning.{learns_one}
use Rattle.export_usage.proofs.facts.Facts.put_reached.Goals as goal

pub returns : goal.returns
returns c = learns_one c.args.self.now c.put.new.self (Reached c.args.module) (Claim.is_reached c.args.module) c.in_ok-put.ensures c.in_ok-put.ensures.known (λ graph h. h)
