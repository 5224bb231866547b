use Rattle.std.proofs.Common.{◌<◌, [], length, ◌∙◌}
use Rattle.std.proofs.lemmas.List.{get_or_default}
use Rattle.scope_hoist.proofs.Gaining.{transposed_none, transposed_more}
use Rattle.scope_hoist.proofs.lists.transposed.Goals as goal

pub loop-number-init : goal.loop-number-init
loop-number-init c = transposed_none c.args.lists.now c.args.count c.in_ok-lines.lines.items c.in_ok-lines.ensures.each c.in_ok-lines.ensures.empty

pub loop-number-preserved : goal.loop-number-preserved
loop-number-preserved c =
    let at = c.loop-number.number in
    let inside : at < length c.args.lists.now = c.loop-number-test.true in
    transposed_more c.args.lists.now c.args.count at c.as_slice.result.now c.loop-number.lines.items c.add_number.new.lines.items c.loop-number.invariant inside
    (c.as_slice.ensures ∙ c.index-lists-number.is ∙ get_or_default c.args.lists.now at c.index-lists-number.result [] inside) c.in_ok-add_number.ensures
