use Rattle.es_names.proofs.Plain.{is_nothing, nothing_left}
use Rattle.es_names.proofs.decode.is_plain.Goals as goal

pub returns : goal.returns
returns c = λ _. nothing_left c.loop-first.rest.now _ (is_nothing _ c.in_default.ensures.cases) c.loop-first.invariant
