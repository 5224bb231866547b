use Rattle.es_exports.specs.Origins.{of_named}
use Rattle.es_exports.proofs.Entries.{none_noted, one_noted}
use Rattle.es_exports.proofs.origins.named.Goals as goal

pub loop-place-init : goal.loop-place-init
loop-place-init c = none_noted (of_named c.args.sight.now c.args.inside.now) c.new-named.result c.new-named.ensures

pub loop-place-preserved : goal.loop-place-preserved
loop-place-preserved c =
    one_noted (of_named c.args.sight.now c.args.inside.now) c.loop-place.place c.of_named.result c.loop-place.named c.note.new.self c.of_named.ensures
    c.in_ok-note.ensures c.loop-place.invariant
