use Rattle.es_scope.proofs.Placing.{item_at}
use Rattle.es_asks.specs.Forwarding.{IsRequestIn}
use Rattle.es_asks.proofs.Gathering.{one_gathered}
use Rattle.es_asks.proofs.ForwardingLaws.{request_told, all_requests}
use Rattle.es_asks.proofs.forwarded.lists_with_requests.Goals as goal

pub loop-place-preserved : goal.loop-place-preserved
loop-place-preserved c =
    let at = item_at c.args.outlined.now.marks c.marks-mark-items.result.now c.loop-place.place _ c.marks-mark-items.ensures c.loop-place-test.true in
    one_gathered (IsRequestIn c.args.outlined.now) c.loop-place.place c.loop-place.lists.keys c.note.new.numbers.keys c.request_in.result c.loop-place.invariant
    (request_told c.args.outlined.now c.args.enclosing.now c.requires.enclosing c.loop-place.place _ c.around.result at c.around.ensures
    c.list_of-list.result c.request_in.result c.list_of-list.ensures c.request_in.ensures)
    c.in_ok-note.ensures

pub returns : goal.returns
returns c = all_requests c.args.outlined.now c.marks-mark-items.result.now c.loop-place.place c.loop-place.lists.keys c.marks-mark-items.ensures c.loop-place-test.false
    c.loop-place.invariant
