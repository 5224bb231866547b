use Rattle.std.proofs.Common.{map, sym, ap, ◌∙◌}
use Rattle.pkg_manifest.specs.Patterns.{segment_step, segment_part, segments}
use Rattle.pkg_manifest.specs.BlockViews.{segment_block}
use Rattle.pkg_manifest.proofs.Choice.{answer, answer_is}
use Rattle.pkg_manifest.proofs.Steps.{segment_shrinks, segment_keeps}
use Rattle.pkg_manifest.proofs.pattern.path_fits.Goals as goal

pub returns-in-Fails : goal.returns-in-Fails
returns-in-Fails c =
    sym (answer_is segment_step segment_shrinks segment_keeps (map segment_part (segments c.args.pattern.now)) (segments c.args.path.now) ∙ ap (answer segment_step segment_shrinks segment_keeps) (sym c.segment_block.ensures ∙ ap segment_block c.in-Fails.is))

pub returns-in-Ends : goal.returns-in-Ends
returns-in-Ends c =
    sym (answer_is segment_step segment_shrinks segment_keeps (map segment_part (segments c.args.pattern.now)) (segments c.args.path.now) ∙ ap (answer segment_step segment_shrinks segment_keeps) (sym c.segment_block.ensures ∙ ap segment_block c.in-Ends.is))

pub returns-in-Star : goal.returns-in-Star
returns-in-Star c =
    c.search_segments.ensures
    ∙ sym (answer_is segment_step segment_shrinks segment_keeps (map segment_part (segments c.args.pattern.now)) (segments c.args.path.now) ∙ ap (answer segment_step segment_shrinks segment_keeps) (sym c.segment_block.ensures ∙ ap segment_block c.in-Star.is))
