use Rattle.std.proofs.Common.{◌<◌, length, sym, subst, ◌∙◌, arith}
use Rattle.std.proofs.lemmas.List.{get_or_default}
use Rattle.scope_hoist.specs.Standing.{IsHeld}
use Rattle.scope_hoist.specs.Going.{PassesOn}
use Rattle.scope_hoist.proofs.Going.{next_low, next_out, settles_more, settled}
use Rattle.scope_hoist.proofs.gone.pass_all_on.Goals as goal

pub pass_on-requires-clause-from : goal.pass_on-requires-clause-from
pass_on-requires-clause-from c =
    let asks = c.args.ground.now.asks.items in
    let gone = c.loop-place.gone.items in
    let place = c.loop-place.place in
    let inside : place < length gone = omega (arith, c.loop-place-test.true, c.len.ensures) in
    subst (λ m. m < length asks) (sym (c.index-from.ensures ∙ get_or_default gone place c.index-from.result.now 0 inside))
    (next_low asks c.args.ground.now.homes.items c.args.root c.args.marks.now c.loop-place.marks c.loop-place.marks gone gone place c.loop-place.invariant inside)

pub pass_on-requires-clause-out : goal.pass_on-requires-clause-out
pass_on-requires-clause-out c =
    let gone = c.loop-place.gone.items in
    let place = c.loop-place.place in
    let inside : place < length gone = omega (arith, c.loop-place-test.true, c.len.ensures) in
    subst (λ m. ¬ IsHeld c.loop-place.marks m) (sym (c.index-from.ensures ∙ get_or_default gone place c.index-from.result.now 0 inside))
    (next_out c.args.ground.now.asks.items c.args.ground.now.homes.items c.args.root c.args.marks.now c.loop-place.marks c.loop-place.marks gone gone place c.loop-place.invariant inside)

pub loop-place-preserved : goal.loop-place-preserved
loop-place-preserved c =
    let asks = c.args.ground.now.asks.items in
    let homes = c.args.ground.now.homes.items in
    let gone = c.loop-place.gone.items in
    let place = c.loop-place.place in
    let inside : place < length gone = omega (arith, c.loop-place-test.true, c.len.ensures) in
    settles_more asks homes c.args.root c.args.marks.now c.loop-place.marks c.pass_on.new.marks gone c.pass_on.new.gone.items place c.loop-place.invariant inside
    (subst (λ m. PassesOn asks homes c.args.root m c.loop-place.marks c.pass_on.new.marks gone c.pass_on.new.gone.items)
    (c.index-from.ensures ∙ get_or_default gone place c.index-from.result.now 0 inside) c.in_ok-pass_on.ensures)

pub returns : goal.returns
returns c = settled c.args.ground.now.asks.items c.args.ground.now.homes.items c.args.root c.args.marks.now c.loop-place.marks c.loop-place.gone.items c.loop-place.place c.loop-place.invariant
    (omega (arith, c.loop-place-test.false, c.len.ensures))
