use Rattle.std.proofs.Common.{map, sym, ap, ◌∙◌}
use Rattle.pkg_manifest.specs.Patterns.{byte_step, byte_part}
use Rattle.pkg_manifest.specs.BlockViews.{byte_block}
use Rattle.pkg_manifest.proofs.Choice.{answer, answer_is}
use Rattle.pkg_manifest.proofs.Steps.{byte_shrinks, byte_keeps}
use Rattle.pkg_manifest.proofs.pattern.segment_fits.Goals as goal

pub returns-in-Fails : goal.returns-in-Fails
returns-in-Fails c = sym (answer_is byte_step byte_shrinks byte_keeps (map byte_part c.args.pattern.now) c.args.text.now ∙ ap (answer byte_step byte_shrinks byte_keeps) (sym c.byte_block.ensures ∙ ap byte_block c.in-Fails.is))

pub returns-in-Ends : goal.returns-in-Ends
returns-in-Ends c = sym (answer_is byte_step byte_shrinks byte_keeps (map byte_part c.args.pattern.now) c.args.text.now ∙ ap (answer byte_step byte_shrinks byte_keeps) (sym c.byte_block.ensures ∙ ap byte_block c.in-Ends.is))

pub returns-in-Star : goal.returns-in-Star
returns-in-Star c =
    c.search_bytes.ensures ∙ sym (answer_is byte_step byte_shrinks byte_keeps (map byte_part c.args.pattern.now) c.args.text.now ∙ ap (answer byte_step byte_shrinks byte_keeps) (sym c.byte_block.ensures ∙ ap byte_block c.in-Star.is))
