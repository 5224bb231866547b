use Rattle.std.proofs.Common.{◌<◌, length, arith}
use Rattle.std.proofs.lemmas.List.{at_drop_more, at_drop_all}
use Rattle.emit_chunk.specs.Factories.{item_text}
use Rattle.emit_chunk.specs.Joined.{all_of}
use Rattle.chunk_files.proofs.Penning.{one_put, none_left}
use Rattle.chunk_files.proofs.segments.put_items.Goals as goal

pub loop-item-preserved : goal.loop-item-preserved
loop-item-preserved c =
    let material = c.args.material.now in
    let place = c.loop-item.item-index in
    let within : place < length c.args.items.now = omega (arith, c.loop-item-test.true) in
    one_put c.loop-item.pen c.put_item.new.pen _ _ _ _ c.in_ok-put_item.ensures
    (at_drop_more (all_of (item_text material.graph material.plan material.bodies)) c.args.items.now place _ within)
    c.loop-item.invariant

pub returns : goal.returns
returns c =
    let material = c.args.material.now in
    none_left _ _ _ (at_drop_all (all_of (item_text material.graph material.plan material.bodies)) c.args.items.now c.loop-item.item-index (omega (arith, c.loop-item-test.false)))
    c.loop-item.invariant
