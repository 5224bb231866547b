use Rattle.std.proofs.Common.{sym, ◌∙◌}
use Rattle.es_trace.proofs.law.trees_are_some.Goals as goal

pub returns : goal.returns
returns c text goal_of program is none = let e = sym is ∙ none in absurd cc
