use Rattle.std.proofs.Common.{◌<◌, [], ◌∷◌, ◌++◌, length, slice_index, ap, ◌∙◌, arith}
use Rattle.std.proofs.lemmas.List.{get_or_default, length-set}
use Rattle.bundle_plan.proofs.Sets.{sets_more}
use Rattle.bundle_plan.proofs.members.sets_of.Goals as goal

pub loop-member-preserved : goal.loop-member-preserved
loop-member-preserved c =
    let roots = c.args.roots.now in
    let member = c.loop-member.member in
    let sets = c.loop-member.sets.items in
    let root = slice_index roots member in
    let one = c.push.new.self in
    let inside : member < length roots = omega (arith, c.loop-member-test.true, c.loop-member.auto.member-end) in
    let low : slice_index roots member < length sets = omega (arith, c.requires.within member 0 inside, c.loop-member.invariant.each) in
    record {
      each = length-set sets root one ∙ c.loop-member.invariant.each;
      sets = sets_more roots sets member one low
          (c.in_ok-push.ensures ∙ ap (λ l. l ++ member ∷ []) (c.index_mut.ensures.value ∙ get_or_default sets root c.index_mut.result.now [] low)) c.loop-member.invariant.sets;
    }
