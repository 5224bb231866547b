use Rattle.export_usage.specs.Claims.{Claim, IsTheClaim}
use Rattle.export_usage.proofs.Learning.{learns_then}
use Rattle.export_usage.proofs.spread.follow_space.Goals as goal

pub returns : goal.returns
returns c = learns_then c.args.facts.now c.put_reached.new.self c.put_exposed.new.self (IsTheClaim (Claim.is_reached c.args.module)) (IsTheClaim (Claim.is_exposed c.args.module))
    c.in_ok-put_reached.ensures c.in_ok-put_exposed.ensures
