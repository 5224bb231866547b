use Rattle.es_reader.proofs.Steps.{some_is}
use Rattle.std.proofs.Common.{sym, ◌∙◌}
use Rattle.es_trace.proofs.law.trees_are_one.Goals as goal

pub returns : goal.returns
returns c text goal_of program other is same = some_is _ _ (sym is ∙ same)
