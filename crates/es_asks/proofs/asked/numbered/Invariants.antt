use Rattle.es_asks.specs.Passing.{AreAskedTo}
use Rattle.es_asks.specs.Requested.{AreKeyed}
use Rattle.es_asks.proofs.asked.numbered.Given as goal

abbrev pub invariant-loop-place : goal.invariant-loop-place
invariant-loop-place l = record {
  asked : AreAskedTo l.outlined l.place l.requests.items.items l.numbers.items;
  keyed : AreKeyed l.requests.numbers.entries l.requests.items.items;
}
