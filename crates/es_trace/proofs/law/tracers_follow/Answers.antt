use Rattle.es_trace.proofs.Tying.{tracing_law}
use Rattle.es_trace.proofs.law.tracers_follow.Goals as goal

pub returns : goal.returns
returns c text nest = tracing_law text nest
