use Rattle.es_asks.specs.Gathering.{AreGathered}
use Rattle.es_asks.proofs.ForwardingLaws.{IsForwardedAt}
use Rattle.es_asks.proofs.forwarded.Forwarded.new.Given as goal

abbrev pub invariant-loop-index : goal.invariant-loop-index
invariant-loop-index l = AreGathered (IsForwardedAt l.outlined) l.index l.places.keys
