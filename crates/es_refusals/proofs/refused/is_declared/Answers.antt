use Rattle.std.proofs.Common.{◌∙◌}
use Rattle.es_refusals.proofs.LookingAround.{declared_same}
use Rattle.es_refusals.proofs.refused.is_declared.Goals as goal

pub returns : goal.returns
returns c = c.is_some.ensures ∙ declared_same c.args.outlined.now c.args.place c.declared.result c.declared.ensures
