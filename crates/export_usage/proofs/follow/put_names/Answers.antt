use Rattle.std.proofs.Common.{◌≡◌, ◌<◌, ◌+◌, ℕ, List, ◌++◌, ◌∷◌, [], length, take, take_all, sym, ap, subst, ◌∙◌, arith}
use Rattle.std.specs.Borrow.{Bor}
use Rattle.std.proofs.lemmas.List.{take_more, get_or-map, length-map}
use Rattle.prune_graph.specs.Gathering.{the_names}
use Rattle.export_usage.specs.Claims.{Claim, AreUsed, IsTheClaim, Learns}
use Rattle.export_usage.proofs.Learning.{each_none, each_more}
use Rattle.export_usage.proofs.follow.put_names.Goals as goal

pub loop-name-init : goal.loop-name-init
loop-name-init c = each_none (λ (one : List ℕ). IsTheClaim (Claim.is_used c.args.module one)) c.args.facts.now

pub loop-name-preserved : goal.loop-name-preserved
loop-name-preserved c =
    let names = c.args.names.now in
    let place = c.loop-name.name-index in
    let name = c.name-item.result in
    let within : place < length (the_names names) = omega (arith, c.loop-name-test.true, length-map names (λ (n : Bor (List ℕ)). n.now)) in
    let more : take (place + 1) (the_names names) ≡ take place (the_names names) ++ name.now ∷ [] =
    take_more (the_names names) place name.now within
    ∙ ap (λ n. take place (the_names names) ++ n ∷ []) (get_or-map (λ (n : Bor (List ℕ)). n.now) names place name name.now c.loop-name-test.true ∙ ap (λ (n : Bor (List ℕ)). n.now) (sym c.name-item.is)) in
    each_more (λ (one : List ℕ). IsTheClaim (Claim.is_used c.args.module one)) c.args.facts.now c.loop-name.facts c.put_used.new.self (take place (the_names names))
    (take (place + 1) (the_names names)) name.now more c.loop-name.invariant
    (subst (λ n. Learns c.loop-name.facts (IsTheClaim (Claim.is_used c.args.module n)) c.put_used.new.self) c.as_slice.ensures c.in_ok-put_used.ensures)

pub returns : goal.returns
returns c =
    let names = c.args.names.now in
    subst (λ l. Learns c.args.facts.now (AreUsed c.args.module l) c.loop-name.facts)
    (take_all c.loop-name.name-index (the_names names) (omega (arith, c.loop-name-test.false, length-map names (λ (n : Bor (List ℕ)). n.now)))) c.loop-name.invariant
