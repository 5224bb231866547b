use Rattle.std.proofs.Common.{ap, ◌∙◌}
use Rattle.pk_types.specs.Numbers.{are_same}
use Rattle.split_chunks.proofs.PickSteps.{alone_by}
use Rattle.split_chunks.proofs.picks.is_alone.Goals as goal

pub returns-then-choice-eq1 : goal.returns-then-choice-eq1
returns-then-choice-eq1 c = alone_by c.args.state.now.modules.items c.args.choice.now.chunks.now c.args.choice.now.modules.now c.index.result.now c.eq.result c.if-choice-eq1.true
    c.requires c.index.ensures (c.eq.ensures ∙ ap (λ l. are_same l c.args.choice.now.modules.now) c.as_slice.ensures)
