use Rattle.std.proofs.Common.{◌≡◌, ◌<◌, ◌+◌, ◌++◌, ◌∷◌, [], Some, slice_get, length, get_or, take, take_all, sym, ap, subst, ◌∙◌, arith}
use Rattle.std.proofs.lemmas.List.{take_more}
use Rattle.std.proofs.lemmas.List.Elements.{All-get_or}
use Rattle.std.proofs.lemmas.Option.{slice_get-get_or}
use Rattle.export_usage.specs.Claims.{Learns}
use Rattle.export_usage.specs.Rules.{FollowsDeclared}
use Rattle.export_usage.specs.Steps.{Each, SaysDeclared}
use Rattle.export_usage.proofs.Following.{declared_claims, declared_by}
use Rattle.export_usage.proofs.Learning.{each_more, learns_same}
use Rattle.export_usage.proofs.follow.follow_declared.Goals as goal

pub loop-request-preserved : goal.loop-request-preserved
loop-request-preserved c =
    let graph = c.args.resolver.now in
    let row = c.args.row.now in
    let order = row.facts.order in
    let place = c.loop-request.request-index in
    let request = get_or c.as_slice-request-items.result.now place 0 in
    let target = get_or c.as_slice-targets.result.now request 0 in
    let h : place < length order = omega (arith, c.loop-request-test.true, ap length c.as_slice-request-items.ensures) in
    let is : request ≡ get_or order place 0 = ap (λ l. get_or l place 0) c.as_slice-request-items.ensures in
    let within : request < length row.targets = subst (λ r. r < length row.targets) (sym is)
    (subst (λ n. get_or order place 0 < n) (sym c.requires.each) (All-get_or (λ r. r < length row.facts.requests) order place 0 h c.requires.facts.places.order)) in
    let t : slice_get row.targets request ≡ Some target = slice_get-get_or row.targets request 0 within ∙ ap (λ l. Some (get_or l request 0)) (sym c.as_slice-targets.ensures) in
    let more : take (place + 1) order ≡ take place order ++ request ∷ [] = take_more order place 0 h ∙ ap (λ r. take place order ++ r ∷ []) (sym is) in
    each_more (SaysDeclared graph row) c.args.facts.now c.loop-request.facts c.declare.new.facts (take place order) (take (place + 1) order) request more c.loop-request.invariant
    (declared_by graph row request target c.loop-request.facts c.declare.new.facts t c.in_ok-declare.ensures)

pub returns : goal.returns
returns c =
    let graph = c.args.resolver.now in
    let row = c.args.row.now in
    let order = row.facts.order in
    let end : take c.loop-request.request-index order ≡ order = take_all c.loop-request.request-index order
    (omega (arith, c.loop-request-test.false, c.loop-request.auto.request-index-end, ap length c.as_slice-request-items.ensures)) in
    learns_same c.args.facts.now c.loop-request.facts (Each (SaysDeclared graph row) order) (FollowsDeclared graph row)
    (subst (λ l. Learns c.args.facts.now (Each (SaysDeclared graph row) l) c.loop-request.facts) end c.loop-request.invariant) (declared_claims graph row)
