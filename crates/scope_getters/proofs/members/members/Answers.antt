use Rattle.std.proofs.Common.{◌≡◌, ◌<◌, length, Some, slice_get, refl, sym, ap, ◌∙◌, arith}
use Rattle.std.proofs.lemmas.List.{length-set}
use Rattle.std.proofs.lemmas.Option.{slice_get-get_or}
use Rattle.scope_getters.proofs.Listing.{one_member}
use Rattle.scope_getters.proofs.members.members.Goals as goal

pub loop-member-preserved : goal.loop-member-preserved
loop-member-preserved c =
    let sets = c.loop-member.sets.items in
    let root = c.root-root.result in
    let old = c.index_mut.result.now in
    let within : root < length sets = omega (arith, c.root-root.ensures.within, c.loop-member.invariant.each) in
    let at : slice_get sets root ≡ Some old = slice_get-get_or sets root old within ∙ ap Some (sym c.index_mut.ensures.value) in
    record {
      each = length-set sets root c.push.new.self ∙ c.loop-member.invariant.each;
      sets = one_member c.args.speller.now.roots sets _ c.loop-member.member root old c.push.new.self (sym c.root-root.ensures.root) within refl at c.in_ok-push.ensures.items
          c.loop-member.invariant.sets;
    }
