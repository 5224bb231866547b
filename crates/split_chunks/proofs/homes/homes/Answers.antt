use Rattle.std.proofs.Common.{◌≡◌, ◌<◌, [], length, get_or, ap, ◌∙◌}
use Rattle.std.proofs.lemmas.List.{get_or_default}
use Rattle.pk_types.specs.Numbers.{has}
use Rattle.split_chunks.proofs.Marking.{home_more}
use Rattle.split_chunks.proofs.homes.homes.Goals as goal

pub loop-chunk-preserved : goal.loop-chunk-preserved
loop-chunk-preserved c =
    let modules = c.args.modules.now in
    let at = c.loop-chunk.chunk in
    let inside : at < length modules = c.loop-chunk-test.true in
    let gain = c.in_ok-add_number.ensures in
    let read : c.as_slice.result.now ≡ get_or modules at [] = c.as_slice.ensures ∙ c.index-modules-chunk.is ∙ get_or_default modules at c.index-modules-chunk.result [] inside in
    record {
      each = gain.each ∙ c.loop-chunk.invariant.each;
      chunks = λ member. gain.gains member ∙ home_more modules at member _ (c.loop-chunk.invariant.chunks member) _ (ap (λ l. has l member) read);
    }
