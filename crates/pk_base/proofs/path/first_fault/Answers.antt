use Rattle.std.proofs.Common.{below_more, sym, ◌∙◌}
use Rattle.pk_base.proofs.path.first_fault.Goals as goal

pub loop-at-preserved : goal.loop-at-preserved
loop-at-preserved c = below_more _ _ c.loop-at.invariant (sym c.has_fault.ensures ∙ c.if-has_fault.false)
