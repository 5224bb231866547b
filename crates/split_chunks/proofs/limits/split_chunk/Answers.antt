use Rattle.std.proofs.Common.{◌≡◌, length, sym, subst, ◌∙◌, arith}
use Rattle.pk_types.specs.SplitPicks.{IsSplitChunk}
use Rattle.split_chunks.proofs.limits.split_chunk.Goals.{then-choice+else-loop-chunk-test, else-choice}
use Rattle.split_chunks.specs.States.{state_of}
use Rattle.split_chunks.specs.Choices.{candidate_of}
use Rattle.split_chunks.proofs.Turning.{first_just, no_just, never_again}
use Rattle.split_chunks.proofs.limits.split_chunk.Goals as goal

pub returns-then-is_just : goal.returns-then-is_just
returns-then-is_just c = first_just (state_of c.args.state.now) (candidate_of c.args.choice.now) c.loop-chunk.chunk-index c.requires.chunks c.if-choice.true c.loop-chunk-test.true
    c.loop-chunk.invariant (sym c.is_just.ensures ∙ c.if-is_just.true)

pub returns : goal.returns
returns c =
    let state = state_of c.args.state.now in
    let candidate = candidate_of c.args.choice.now in
    let long : c.len.result ≡ length state.modules = omega (arith, c.len.ensures, c.args.state.now.modules.ok) in
    subst (IsSplitChunk state candidate) (sym long) (elim c.if-choice.branch [
      | then-choice+else-loop-chunk-test w ↦ no_just state candidate (λ k h. w.loop-chunk.invariant k (omega (arith, h, w.loop-chunk-test.false)))
      | else-choice w ↦ never_again state candidate w.if-choice.false
    ])
