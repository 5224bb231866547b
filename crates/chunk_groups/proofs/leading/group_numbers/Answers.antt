use Rattle.std.proofs.Common.{◌+◌, ◌<◌, get_or, Some, ◌∙◌, arith}
use Rattle.std.proofs.lemmas.List.{length-set}
use Rattle.chunk_groups.proofs.LedGroups.{one_number_more}
use Rattle.chunk_groups.proofs.leading.group_numbers.Goals as goal

pub loop-place-preserved : goal.loop-place-preserved
loop-place-preserved c =
    let place = c.loop-place.place in
    let here = get_or c.args.imported.now place 0 in
    let below : here < c.args.count = c.requires.within place 0 c.loop-place-test.true in
    let each = c.loop-place.invariant.each in
    record {
      each = length-set c.loop-place.numbers.items here (Some (c.args.entries + place)) ∙ each;
      numbers = one_number_more c.args.entries c.args.imported.now place c.loop-place.numbers.items c.loop-place.invariant.numbers c.requires.order c.loop-place-test.true (omega arith);
    }
