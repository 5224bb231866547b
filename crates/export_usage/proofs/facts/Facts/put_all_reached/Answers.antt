use Rattle.std.proofs.Common.{◌+◌, ℕ, get_or, take}
use Rattle.std.proofs.lemmas.List.{take_more}
use Rattle.export_usage.specs.Claims.{Claim, IsTheClaim}
use Rattle.export_usage.proofs.Learning.{each_none, each_more}
use Rattle.export_usage.proofs.facts.Facts.put_all_reached.Goals as goal

pub loop-module-init : goal.loop-module-init
loop-module-init c = each_none (λ (number : ℕ). IsTheClaim (Claim.is_reached number)) c.args.self.now

pub loop-module-preserved : goal.loop-module-preserved
loop-module-preserved c =
    let modules = c.args.modules.now in
    let place = c.loop-module.module-index in
    each_more (λ (number : ℕ). IsTheClaim (Claim.is_reached number)) c.args.self.now c.loop-module.self c.put_reached.new.self (take place modules) (take (place + 1) modules)
    (get_or modules place 0) (take_more modules place 0 c.loop-module-test.true) c.loop-module.invariant c.in_ok-put_reached.ensures
