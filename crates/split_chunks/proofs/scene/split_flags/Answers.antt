use Rattle.std.proofs.Common.{◌<◌, [], length, get_or, sym, subst, ◌∙◌}
use Rattle.std.specs.List.{All}
use Rattle.std.proofs.lemmas.List.{get_or_default}
use Rattle.split_chunks.specs.States.{state_of}
use Rattle.split_chunks.proofs.Standing.{members_below}
use Rattle.split_chunks.proofs.scene.split_flags.Goals as goal

pub mark-requires : goal.mark-requires
mark-requires c =
    let state = state_of c.args.state.now in
    let split = state.split in
    let at = c.loop-chunk.chunk-index in
    let inside : at < length split = subst (λ l. at < length l) c.deref-chunk-items.ensures.value c.loop-chunk-test.true in
    let chunk = get_or c.deref-chunk-items.result.now at 0 in
    let low : chunk < length state.modules = subst (λ l. get_or l at 0 < length state.modules) (sym c.deref-chunk-items.ensures.value) (c.requires.split at 0 inside) in
    subst (λ n. All (λ member. member < n) c.as_slice.result.now) (sym c.loop-chunk.invariant.each)
    (subst (All (λ member. member < c.args.count)) (sym (c.as_slice.ensures ∙ c.index.ensures ∙ get_or_default state.modules chunk c.index.result.now [] low)) (members_below c.args.count state c.requires chunk))
