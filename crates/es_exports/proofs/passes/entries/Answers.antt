use Rattle.es_exports.specs.Origins.{entry_at}
use Rattle.es_exports.proofs.Listing.{no_those, more_those}
use Rattle.es_exports.proofs.passes.entries.Goals as goal

pub loop-place-init : goal.loop-place-init
loop-place-init c = no_those (entry_at c.args.sight.now c.args.inside.now c.args.named.now) c.new-entries.result.items c.new-entries.ensures.items

pub loop-place-preserved : goal.loop-place-preserved
loop-place-preserved c =
    more_those (entry_at c.args.sight.now c.args.inside.now c.args.named.now) c.loop-place.place c.in_ok-entry.entry c.loop-place.entries.items
    c.push_some.new.items.items c.loop-place.invariant c.in_ok-entry.ensures c.in_ok-push_some.ensures
