use Rattle.std.proofs.Common.{◌≡◌, ◌⊎◌, ◌+◌, ℕ, get_or, take}
use Rattle.std.proofs.lemmas.List.{take_more}
use Rattle.export_usage.specs.Claims.{Claim, IsTheClaim}
use Rattle.export_usage.proofs.Learning.{each_none, each_more, learns_then}
use Rattle.export_usage.proofs.facts.Facts.put_all_exposed.Goals as goal

abbrev says : ℕ → Claim → Type 0
says number claim = (Claim.is_reached number ≡ claim) ⊎ (Claim.is_exposed number ≡ claim)

pub loop-module-init : goal.loop-module-init
loop-module-init c = each_none says c.args.self.now

pub loop-module-preserved : goal.loop-module-preserved
loop-module-preserved c =
    let modules = c.args.modules.now in
    let place = c.loop-module.module-index in
    let number = get_or modules place 0 in
    each_more says c.args.self.now c.loop-module.self c.put_exposed.new.self (take place modules) (take (place + 1) modules) number (take_more modules place 0 c.loop-module-test.true)
    c.loop-module.invariant
    (learns_then c.loop-module.self c.put_reached.new.self c.put_exposed.new.self (IsTheClaim (Claim.is_reached number)) (IsTheClaim (Claim.is_exposed number))
    c.in_ok-put_reached.ensures c.in_ok-put_exposed.ensures)
