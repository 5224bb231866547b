use Rattle.std.proofs.Common.{[], ◌∷◌, ◌++◌, sym, ap, ◌∙◌}
use Rattle.pk_types.specs.SplitStates.{chunk_at, is_there}
use Rattle.split_chunks.specs.States.{state_of}
use Rattle.split_chunks.proofs.Numbered.{kept_yes, kept_no}
use Rattle.split_chunks.proofs.chunks.modules.Goals.{then-is_left+in_ok-members+in_ok-push, else-is_left}
use Rattle.split_chunks.proofs.chunks.modules.Goals as goal

pub loop-chunk-preserved : goal.loop-chunk-preserved
loop-chunk-preserved c =
    let state = state_of c.args.state.now in
    let chunk = c.loop-chunk.chunk in
    elim c.if-is_left.branch [
      | then-is_left+in_ok-members+in_ok-push w ↦ ap (λ v. v.items) w.modules-is ∙ w.in_ok-push.ensures.items ∙ (λ i. c.loop-chunk.invariant i ++ w.in_ok-members.ensures i ∷ [])
          ∙ sym (kept_yes (chunk_at state) (is_there state) chunk (sym c.is_left.ensures ∙ w.if-is_left.true))
      | else-is_left w ↦ ap (λ v. v.items) w.modules-is ∙ c.loop-chunk.invariant ∙ sym (kept_no (chunk_at state) (is_there state) chunk (sym c.is_left.ensures ∙ w.if-is_left.false))
    ]
