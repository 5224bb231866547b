use Rattle.std.proofs.Common.{◌∙◌, sym}
use Rattle.es_sites.proofs.MarkLaws.{updated_step, updated_stop}
use Rattle.es_sites.proofs.marks.updated_from.Goals as goal

pub loop-at-preserved : goal.loop-at-preserved
loop-at-preserved c = updated_step c.args.marks.now c.loop-at.at (sym c.closes.ensures ∙ c.loop-at-test.true) ∙ c.loop-at.invariant

pub returns : goal.returns
returns c = c.is_update.ensures ∙ sym (updated_stop c.args.marks.now c.loop-at.at (sym c.closes.ensures ∙ c.loop-at-test.false)) ∙ c.loop-at.invariant
