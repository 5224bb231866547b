use Rattle.std.proofs.Common.{◌<◌, [], length, get_or, ap, ◌∷◌, ◌++◌, ◌∙◌, arith}
use Rattle.std.proofs.lemmas.List.{get_or_default}
use Rattle.split_chunks.proofs.Marking.{gains_more}
use Rattle.split_chunks.proofs.homes.add_number.Goals as goal

pub loop-place-preserved : goal.loop-place-preserved
loop-place-preserved c =
    let places = c.args.places.now in
    let at = c.loop-place.place-index in
    let mid = c.loop-place.lists.items in
    let inside : at < length places = c.loop-place-test.true in
    let low : get_or places at 0 < length mid = omega (arith, c.requires.within at 0 inside, c.loop-place.invariant.each) in
    gains_more places at c.args.number c.args.lists.now.items mid c.push.new.self c.requires.ascending c.loop-place.invariant inside low
    (c.in_ok-push.ensures ∙ ap (λ l. l ++ c.args.number ∷ []) (c.index_mut.ensures.value ∙ get_or_default mid (get_or places at 0) c.index_mut.result.now [] low))
