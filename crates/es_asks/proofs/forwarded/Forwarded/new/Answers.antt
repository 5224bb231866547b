use Rattle.es_scope.proofs.Placing.{item_at}
use Rattle.es_asks.proofs.Gathering.{one_gathered}
use Rattle.es_asks.proofs.ForwardingLaws.{IsForwardedAt, forwarded_told, all_forwarded}
use Rattle.es_asks.proofs.forwarded.Forwarded.new.Goals as goal

pub loop-index-preserved : goal.loop-index-preserved
loop-index-preserved c =
    let at = item_at c.args.outlined.now.marks c.marks-mark-items.result.now c.loop-index.index _ c.marks-mark-items.ensures c.loop-index-test.true in
    one_gathered (IsForwardedAt c.args.outlined.now) c.loop-index.index c.loop-index.places.keys c.note.new.numbers.keys c.forwarded_in.result c.loop-index.invariant
    (forwarded_told c.args.outlined.now c.args.enclosing.now c.requires.enclosing c.loop-index.index _ c.around.result at c.around.ensures
    c.in_ok-lists.lists.keys c.list_of-list.result c.forwarded_in.result c.in_ok-lists.ensures c.list_of-list.ensures c.forwarded_in.ensures)
    c.in_ok-note.ensures

pub returns : goal.returns
returns c = all_forwarded c.args.outlined.now c.marks-mark-items.result.now c.loop-index.index c.loop-index.places.keys c.marks-mark-items.ensures c.loop-index-test.false
    c.loop-index.invariant
