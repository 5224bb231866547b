use Rattle.std.proofs.Common.{◌<◌, length, arith}
use Rattle.std.proofs.lemmas.List.{at_drop_more, at_drop_all}
use Rattle.emit_chunk.specs.Joined.{all_of}
use Rattle.emit_chunk.specs.Marks.{mark_of}
use Rattle.chunk_files.proofs.Penning.{one_put, none_left}
use Rattle.chunk_files.proofs.segments.put_sites.Goals as goal

pub loop-piece-preserved : goal.loop-piece-preserved
loop-piece-preserved c =
    let place = c.loop-piece.piece-index in
    let within : place < length c.args.pieces.now = omega (arith, c.loop-piece-test.true) in
    one_put c.loop-piece.pen c.put_mark.new.pen _ _ _ _ c.in_ok-put_mark.ensures (at_drop_more (all_of mark_of) c.args.pieces.now place _ within)
    c.loop-piece.invariant

pub returns : goal.returns
returns c =
    none_left _ _ _ (at_drop_all (all_of mark_of) c.args.pieces.now c.loop-piece.piece-index (omega (arith, c.loop-piece-test.false)))
    c.loop-piece.invariant
