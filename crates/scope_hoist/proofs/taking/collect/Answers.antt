use Rattle.std.proofs.Common.{◌≡◌, ◌<◌, length, get_or, refl, ap, subst, ◌∙◌, arith}
use Rattle.std.proofs.lemmas.List.{get_or_default}
use Rattle.std.proofs.lemmas.List.Elements.{All-get_or}
use Rattle.scope_hoist.specs.Taking.{Collects}
use Rattle.scope_hoist.proofs.Taken.{collecting_starts, collects_more, all_collected}
use Rattle.scope_hoist.proofs.taking.collect.Goals as goal

pub loop-place-init : goal.loop-place-init
loop-place-init c = collecting_starts c.args.ground.now.homes.items c.args.root c.args.marks.now c.args.roots.now.items c.new-rest.result.items c.new-rest.ensures.items

pub loop-place-preserved : goal.loop-place-preserved
loop-place-preserved c =
    let asks = c.args.ground.now.asks.items in
    let homes = c.args.ground.now.homes.items in
    let first = c.args.marks.now in
    let old = c.loop-place.marks in
    let place = c.loop-place.place in
    let inside : place < length first.list.items = omega (arith, c.loop-place-test.true, c.len-place-end.ensures) in
    let same : c.index-member.result.now ≡ get_or first.list.items place 0 =
    c.index-member.ensures ∙ get_or_default old.list.items place c.index-member.result.now 0 (omega (arith, inside, ap length c.loop-place.invariant.list)) ∙ ap (λ l. get_or l place 0) c.loop-place.invariant.list in
    let low : get_or first.list.items place 0 < length asks = All-get_or (λ m. m < length asks) first.list.items place 0 inside c.requires.standing.within in
    collects_more homes c.args.root first old c.collect_one.new.marks c.args.roots.now.items c.loop-place.roots.items c.collect_one.new.roots.items c.loop-place.rest.items c.collect_one.new.rest.items
    place c.loop-place.invariant inside
    (subst (λ m. Collects homes c.args.root m old c.collect_one.new.marks c.loop-place.roots.items c.collect_one.new.roots.items c.loop-place.rest.items c.collect_one.new.rest.items) same
    c.in_ok-collect_one.ensures)
    (omega (arith, low, c.loop-place.invariant.each_held, c.requires.standing.each_held)) (omega (arith, low, c.loop-place.invariant.each, c.requires.each))

pub returns : goal.returns
returns c = all_collected c.args.ground.now.homes.items c.args.root c.args.marks.now c.loop-place.marks _ c.args.roots.now.items c.loop-place.roots.items c.loop-place.rest.items c.loop-place.place
    c.loop-place.invariant (omega (arith, c.loop-place-test.false, c.len-place-end.ensures)) c.requires.standing.listed refl refl refl
