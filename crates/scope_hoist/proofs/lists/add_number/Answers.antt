use Rattle.std.proofs.Common.{◌<◌, [], length, get_or, ap, ◌∷◌, ◌++◌, ◌∙◌, arith}
use Rattle.std.proofs.lemmas.List.{get_or_default}
use Rattle.scope_hoist.proofs.Gaining.{gains_nothing, gains_more}
use Rattle.scope_hoist.proofs.lists.add_number.Goals as goal

pub loop-place-init : goal.loop-place-init
loop-place-init c = gains_nothing c.args.number c.args.lines.now.items

pub loop-place-preserved : goal.loop-place-preserved
loop-place-preserved c =
    let places = c.args.places.now in
    let at = c.loop-place.place-index in
    let mid = c.loop-place.lines.items in
    let inside : at < length places = c.loop-place-test.true in
    let low : get_or places at 0 < length mid = omega (arith, c.requires at 0 inside, c.loop-place.invariant.each) in
    gains_more places at c.args.number c.args.lines.now.items mid c.push.new.self c.loop-place.invariant inside low
    (c.in_ok-push.ensures ∙ ap (λ l. l ++ c.args.number ∷ []) (c.index_mut.ensures.value ∙ get_or_default mid (get_or places at 0) c.index_mut.result.now [] low))
