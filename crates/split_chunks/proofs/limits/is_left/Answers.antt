use Rattle.std.proofs.Common.{not, [], sym, ap, ◌∙◌}
use Rattle.std.proofs.lemmas.List.{get_or_default}
use Rattle.pk_types.specs.Numbers.{are_same}
use Rattle.split_chunks.specs.States.{state_of}
use Rattle.split_chunks.specs.Choices.{candidate_of}
use Rattle.split_chunks.proofs.Turning.{left_in}
use Rattle.split_chunks.proofs.limits.is_left.Goals as goal

pub returns-then-chunks-chunk : goal.returns-then-chunks-chunk
returns-then-chunks-chunk c =
    let state = state_of c.args.state.now in
    let candidate = candidate_of c.args.choice.now in
    let chunk = c.args.chunk in
    let read = c.as_slice-modules.ensures ∙ c.index.ensures ∙ get_or_default state.modules chunk c.index.result.now [] c.requires.inside in
    ap not (c.are_same.ensures ∙ ap (λ l. are_same l candidate.modules) read)
    ∙ left_in state candidate c.args.split chunk c.requires.sound (sym (c.requires.chunks.each chunk) ∙ c.if-chunks-chunk.true) c.if-chunk-state.false c.if-chunk-split.false
