use Rattle.es_trace.proofs.Tying.{outline_law}
use Rattle.es_trace.proofs.law.outlines_are_traced.Goals as goal

pub returns : goal.returns
returns c text goal_of = outline_law text goal_of
