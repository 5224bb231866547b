use Rattle.std.proofs.Common.{◌≡◌, ◌<◌, length, get_or, ap, subst, ◌∙◌, arith}
use Rattle.std.proofs.lemmas.List.{get_or_default}
use Rattle.scope_hoist.specs.Going.{LooksAt}
use Rattle.scope_hoist.proofs.Going.{looked_at}
use Rattle.scope_hoist.proofs.gone.look_at_all.Goals as goal

pub loop-place-preserved : goal.loop-place-preserved
loop-place-preserved c =
    let asks = c.args.ground.now.asks.items in
    let homes = c.args.ground.now.homes.items in
    let first = c.args.marks.now in
    let old = c.loop-place.marks in
    let place = c.loop-place.place in
    let inside : place < length first.list.items = omega (arith, c.loop-place-test.true, c.len-place-end.ensures) in
    let same : c.index-member.result.now ≡ get_or first.list.items place 0 =
    c.index-member.ensures ∙ get_or_default old.list.items place c.index-member.result.now 0 (omega (arith, inside, ap length c.loop-place.invariant.list)) ∙ ap (λ l. get_or l place 0) c.loop-place.invariant.list in
    looked_at asks homes c.args.root first old c.look_at.new.marks c.loop-place.gone.items c.look_at.new.gone.items place c.loop-place.invariant inside
    (subst (λ m. LooksAt asks homes c.args.root m old c.look_at.new.marks c.loop-place.gone.items c.look_at.new.gone.items) same c.in_ok-look_at.ensures)
