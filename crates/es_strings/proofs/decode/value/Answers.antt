use Rattle.es_strings.proofs.Passing.{finished, tells_nothing, tells_something, turned}
use Rattle.es_strings.proofs.decode.value.Goals as goal

pub loop-rest-preserved : goal.loop-rest-preserved
loop-rest-preserved c = (
  rw (c.behind-rest.ensures, c.max.ensures) (turned _ c.loop-rest.bytes.items c.loop-rest.rest.now _ _ c.loop-rest.waits c.in_ok-waits.waits
      c.unit-unit.result.size c.loop-rest.invariant.0
      (tells_something _ _ c.is_empty.ensures c.loop-rest-test.true) c.unit-unit.ensures.value c.in_ok-waits.ensures.value),
  c.in_ok-waits.ensures.waits,
)

pub returns : goal.returns
returns c = finished c.args.spelling.now c.loop-rest.bytes.items _ c.loop-rest.rest.now c.loop-rest.waits c.loop-rest.invariant.0
    (tells_nothing _ _ c.is_empty.ensures c.loop-rest-test.false) c.in_ok-finish.ensures
