use Rattle.export_usage.specs.declared.facts.Fact.TheVariants.{Exposed}
use Rattle.export_usage.specs.Claims.{Claim}
use Rattle.export_usage.proofs.Learning.{learns_one}
use Rattle.export_usage.proofs.facts.Facts.put_exposed.Goals as goal

pub returns : goal.returns
returns c = learns_one c.args.self.now c.put.new.self (Exposed c.args.module) (Claim.is_exposed c.args.module) c.in_ok-put.ensures c.in_ok-put.ensures.known (λ graph h. h)
