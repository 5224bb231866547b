use Rattle.es_exports.specs.Origins.{star_at}
use Rattle.es_exports.proofs.Listing.{no_those, more_those}
use Rattle.es_exports.proofs.passes.stars.Goals as goal

pub loop-place-init : goal.loop-place-init
loop-place-init c = no_those (star_at c.args.sight.now c.args.inside.now) c.new-stars.result.items c.new-stars.ensures.items

pub loop-place-preserved : goal.loop-place-preserved
loop-place-preserved c =
    more_those (star_at c.args.sight.now c.args.inside.now) c.loop-place.place c.star_at.result c.loop-place.stars.items
    c.push_some.new.items.items c.loop-place.invariant c.star_at.ensures c.in_ok-push_some.ensures
