use Rattle.std.proofs.Common.{◌<◌, length, arith}
use Rattle.std.proofs.lemmas.List.{at_drop_more, at_drop_all}
use Rattle.chunk_files.specs.Json.{escaped}
use Rattle.chunk_files.proofs.Penning.{one_put, none_left}
use Rattle.chunk_files.proofs.json.put_escaped.Goals as goal

pub loop-byte-preserved : goal.loop-byte-preserved
loop-byte-preserved c =
    let place = c.loop-byte.byte-index in
    let within : place < length c.args.bytes.now = omega (arith, c.loop-byte-test.true) in
    one_put c.loop-byte.pen c.put_byte.new.pen _ _ _ _ c.in_ok-put_byte.ensures (at_drop_more escaped c.args.bytes.now place _ within)
    c.loop-byte.invariant

pub returns : goal.returns
returns c =
    none_left _ _ _ (at_drop_all escaped c.args.bytes.now c.loop-byte.byte-index (omega (arith, c.loop-byte-test.false)))
    c.loop-byte.invariant
