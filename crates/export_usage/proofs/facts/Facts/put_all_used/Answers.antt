use Rattle.std.proofs.Common.{◌≡◌, ◌+◌, ℕ, List, ◌++◌, ◌∷◌, [], take, sym, ap, subst, ◌∙◌}
use Rattle.std.proofs.lemmas.List.{take_more}
use Rattle.export_usage.specs.Claims.{Claim, IsTheClaim, Learns}
use Rattle.export_usage.proofs.Learning.{each_none, each_more}
use Rattle.export_usage.proofs.facts.Facts.put_all_used.Goals as goal

pub loop-name-init : goal.loop-name-init
loop-name-init c = each_none (λ (name : List ℕ). IsTheClaim (Claim.is_used c.args.module name)) c.args.self.now

pub loop-name-preserved : goal.loop-name-preserved
loop-name-preserved c =
    let names = c.args.names.now in
    let place = c.loop-name.name-index in
    let name = c.name-item.result in
    let more : take (place + 1) names ≡ take place names ++ name ∷ [] = take_more names place name c.loop-name-test.true ∙ ap (λ n. take place names ++ n ∷ []) (sym c.name-item.is) in
    each_more (λ (one : List ℕ). IsTheClaim (Claim.is_used c.args.module one)) c.args.self.now c.loop-name.self c.put_used.new.self (take place names) (take (place + 1) names) name more
    c.loop-name.invariant
    (subst (λ n. Learns c.loop-name.self (IsTheClaim (Claim.is_used c.args.module n)) c.put_used.new.self) c.as_slice.ensures c.in_ok-put_used.ensures)
