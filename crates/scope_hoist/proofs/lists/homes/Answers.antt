use Rattle.std.proofs.Common.{◌<◌, [], length, subst, ◌∙◌, arith}
use Rattle.std.specs.List.{Contains}
use Rattle.std.proofs.lemmas.List.{get_or_default, length-set, get_or-set_other}
use Rattle.pk_types.specs.ChunkGroups.{AreAll}
use Rattle.scope_hoist.specs.Scopes.{AreTransposed}
use Rattle.scope_hoist.proofs.Gaining.{home_done}
use Rattle.scope_hoist.proofs.lists.homes.Goals as goal

pub loop-member-preserved : goal.loop-member-preserved
loop-member-preserved c =
    let chunks = c.args.chunks.now in
    let count = c.args.count in
    let at = c.loop-member.member in
    let first = c.in_ok-homes.homes.items in
    let old = c.loop-member.homes.items in
    let line = c.put_in_order.new.self in
    let transposed = subst (λ l. AreTransposed l count first) c.as_slice.ensures c.in_ok-homes.ensures in
    let inside : at < count = omega (arith, c.loop-member-test.true, c.len-member-end.ensures, transposed.each) in
    let low : at < length old = omega (arith, inside, c.loop-member.invariant.each) in
    record {
      each = length-set old at line ∙ c.loop-member.invariant.each;
      done = home_done chunks count first old line at transposed inside c.loop-member.invariant.each c.loop-member.invariant.done c.loop-member.invariant.waits
          (subst (λ l. AreAll (Contains l) line) (c.index_mut.ensures.value ∙ get_or_default old at c.index_mut.result.now [] low) c.put_in_order.ensures);
      waits = λ k h. get_or-set_other old at k line [] (λ e. absurd (omega (arith, h, e))) ∙ c.loop-member.invariant.waits k (omega (arith, h));
    }
