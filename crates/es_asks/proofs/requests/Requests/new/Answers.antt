use Rattle.es_asks.proofs.Requested.{none_keyed}
use Rattle.es_asks.proofs.requests.Requests.new.Goals as goal

pub returns-clause-keyed : goal.returns-clause-keyed
returns-clause-keyed c = none_keyed c.new.result.entries c.new-2.result.items c.new.ensures.empty c.new-2.ensures.items
