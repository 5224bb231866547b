use Rattle.es_asks.specs.Forwarding.{IsRequestIn}
use Rattle.es_asks.specs.Gathering.{AreGathered}
use Rattle.es_asks.proofs.forwarded.lists_with_requests.Given as goal

abbrev pub invariant-loop-place : goal.invariant-loop-place
invariant-loop-place l = AreGathered (IsRequestIn l.outlined) l.place l.lists.keys
