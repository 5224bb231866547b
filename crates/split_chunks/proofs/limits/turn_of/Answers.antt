use Rattle.std.proofs.Common.{◌≡◌, [], ◌∷◌, ◌++◌, length, map, sym, ap, subst, ◌∙◌, arith}
use Rattle.std.specs.List.{range_with_len}
use Rattle.std.proofs.lemmas.List.FromFn.{map-range_with_len_more}
use Rattle.pk_types.specs.SplitPicks.{stays}
use Rattle.split_chunks.specs.States.{state_of}
use Rattle.split_chunks.specs.Choices.{candidate_of}
use Rattle.split_chunks.specs.Marked.{AreFlags}
use Rattle.split_chunks.proofs.Turning.{HasStays, split_below, split_stays, stays_new, stays_old}
use Rattle.split_chunks.proofs.limits.turn_of.Goals.{then-split-len+in_ok-push-2, else-split-len}
use Rattle.split_chunks.proofs.limits.turn_of.Goals as goal

pub loop-chunk-preserved : goal.loop-chunk-preserved
loop-chunk-preserved c =
    let keeps = stays (state_of c.args.state.now) (candidate_of c.args.choice.now) c.split_chunk-split.result in
    let chunk = c.loop-chunk.chunk in
    c.in_ok-push.ensures.items ∙ ap (λ l. l ++ c.is_left.result ∷ []) c.loop-chunk.invariant ∙ ap (λ b. map keeps (range_with_len 0 chunk) ++ b ∷ []) c.is_left.ensures
    ∙ sym (map-range_with_len_more keeps 0 chunk chunk (omega arith))

pub returns : goal.returns
returns c =
    let state = state_of c.args.state.now in
    let candidate = candidate_of c.args.choice.now in
    let split = c.split_chunk-split.result in
    let into = c.split_chunk-split.ensures in
    let below = split_below state candidate split c.requires into in
    let end : c.loop-chunk.chunk ≡ length state.modules = omega (arith, c.loop-chunk-test.false, c.loop-chunk.auto.chunk-end, c.len-chunk-end.ensures) in
    let all : c.loop-chunk.stays.items ≡ map (stays state candidate split) (range_with_len 0 (length state.modules)) =
    c.loop-chunk.invariant ∙ ap (λ n. map (stays state candidate split) (range_with_len 0 n)) end in
    let long : c.len-3.result ≡ length state.modules = omega (arith, c.len-3.ensures, c.args.state.now.modules.ok) in
    let first_long : c.len.result ≡ length state.modules = omega (arith, c.len.ensures, c.args.state.now.modules.ok) in
    let has : HasStays state candidate split c.if-split-len.stays.items = elim c.if-split-len.branch [
      | then-split-len+in_ok-push-2 w ↦ stays_new state candidate split c.loop-chunk.stays.items c.if-split-len.stays.items (w.if-split-len.true ∙ long) c.requires.some all
          (ap (λ v. v.items) w.stays-is ∙ w.in_ok-push-2.ensures.items)
      | else-split-len w ↦ subst (HasStays state candidate split) (sym (ap (λ v. v.items) w.stays-is))
          (stays_old state candidate split c.loop-chunk.stays.items (omega (arith, below, w.if-split-len.false, long)) all)
    ] in
    record {
      split = into;
      below = below;
      lasting = split_stays state candidate split c.requires.some;
      chunks = subst (λ n. AreFlags candidate.chunks n c.in_ok-chunks.chunks.items) first_long c.in_ok-chunks.ensures;
      long = has.0;
      stays = has.1;
    }
