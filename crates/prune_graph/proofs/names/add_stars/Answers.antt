use Rattle.std.proofs.Common.{◌+◌, get_or, take}
use Rattle.std.proofs.lemmas.List.{take_more}
use Rattle.prune_graph.proofs.Passes.{star_more}
use Rattle.prune_graph.proofs.names.add_stars.Goals as goal

pub loop-star-preserved : goal.loop-star-preserved
loop-star-preserved c =
    let stars = c.args.stars.now in
    let place = c.loop-star.star-index in
    star_more c.args.through.now c.loop-star.through c.add_name.new.self (take place stars) (take (place + 1) stars) (get_or stars place 0) c.args.exported.now
    (take_more stars place 0 c.loop-star-test.true) c.loop-star.invariant c.in_ok-add_name.ensures
