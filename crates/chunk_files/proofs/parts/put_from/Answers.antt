use Rattle.std.proofs.Common.{◌<◌, [], length, drop, arith}
use Rattle.std.proofs.lemmas.List.{at_drop_more, at_drop_all}
use Rattle.chunk_files.specs.Joined.{each_behind}
use Rattle.chunk_files.specs.Pens.{penned}
use Rattle.chunk_files.proofs.Penning.{then_put, one_put, none_left}
use Rattle.chunk_files.proofs.parts.put_from.Goals as goal

pub loop-place-preserved : goal.loop-place-preserved
loop-place-preserved g c =
    let within : c.loop-place.place < length (g.P.Parts.texts c.args.parts.now) = omega (arith, c.loop-place-test.true, c.count-place-end.ensures) in
    one_put c.loop-place.pen c.put-in-loop-place.new.pen (penned c.args.pen.now (each_behind c.args.separator.now (drop c.args.first (g.P.Parts.texts c.args.parts.now)))) _ _ _
    (then_put _ _ _ _ _ c.in_ok-put.ensures c.in_ok-put-2.ensures)
    (at_drop_more (each_behind c.args.separator.now) (g.P.Parts.texts c.args.parts.now) c.loop-place.place [] within)
    c.loop-place.invariant

pub returns : goal.returns
returns g c =
    none_left _ _ _
    (at_drop_all (each_behind c.args.separator.now) (g.P.Parts.texts c.args.parts.now) c.loop-place.place (omega (arith, c.loop-place-test.false, c.count-place-end.ensures)))
    c.loop-place.invariant
