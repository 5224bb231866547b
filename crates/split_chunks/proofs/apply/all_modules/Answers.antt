use Rattle.std.proofs.Common.{[], ◌∷◌, ◌++◌, map, sym, ap, ◌∙◌, arith}
use Rattle.std.specs.List.{range_with_len}
use Rattle.std.proofs.lemmas.List.FromFn.{map-range_with_len_more}
use Rattle.pk_types.specs.SplitPicks.{chunk_after}
use Rattle.split_chunks.specs.States.{state_of}
use Rattle.split_chunks.specs.Choices.{candidate_of}
use Rattle.split_chunks.proofs.apply.all_modules.Goals as goal

pub loop-chunk-preserved : goal.loop-chunk-preserved
loop-chunk-preserved c =
    let holds = chunk_after (state_of c.args.state.now) (candidate_of c.args.choice.now) c.args.turn.now.split in
    let chunk = c.loop-chunk.chunk in
    c.in_ok-push.ensures.items ∙ ap (λ l. l ++ c.in_ok-modules_of.field-0 ∷ []) c.loop-chunk.invariant ∙ ap (λ b. map holds (range_with_len 0 chunk) ++ b ∷ []) c.in_ok-modules_of.ensures
    ∙ sym (map-range_with_len_more holds 0 chunk chunk (omega arith))
