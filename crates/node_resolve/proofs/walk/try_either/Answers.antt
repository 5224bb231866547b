use Rattle.std.proofs.Common.{sym, ap}
use Rattle.node_resolve.specs.Resolution.{as_either}
use Rattle.node_resolve.proofs.Walking.{stays_at}
use Rattle.node_resolve.proofs.walk.try_either.Goals as goal

pub returns-in-None-clause-went : goal.returns-in-None-clause-went
returns-in-None-clause-went g c next = stays_at _ _ _ _ (ap (λ place. as_either place next) (sym c.in-None.is))
