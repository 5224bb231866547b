use Rattle.std.proofs.Common.{◌≡◌, ◌≢◌, ℕ, List, [], ◌∷◌}
use Rattle.es_names.proofs.Plain.{decoded, ended, tells_nothing, tells_something}
use Rattle.es_names.proofs.decode.name.Goals as goal

pub loop-rest-preserved : goal.loop-rest-preserved
loop-rest-preserved c =
    decoded _ _ c.loop-rest.rest.now _ _ c.unit-code.result.0 c.unit-code.result.1 c.max.result c.loop-rest.invariant c.unit-code.ensures.value
    (tells_something _ _ c.is_empty.ensures c.loop-rest-test.true) c.in_ok-push.ensures c.max.ensures c.split_at.ensures.back

pub returns : goal.returns
returns c = ended _ _ c.loop-rest.rest.now c.loop-rest.invariant (tells_nothing _ _ c.is_empty.ensures c.loop-rest-test.false)
