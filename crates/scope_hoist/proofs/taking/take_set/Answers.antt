use Rattle.scope_hoist.proofs.Taken.{collected_standing, takes_set, known_after}
use Rattle.scope_hoist.proofs.taking.take_set.Goals as goal

pub returns-clause-standing : goal.returns-clause-standing
returns-clause-standing c =
    let ground = c.args.ground.now in
    collected_standing ground.asks.items ground.homes.items c.args.root c.pass_all_on.new.marks c.collect.new.marks c.args.roots.now.items c.collect.new.roots.items
    c.in_ok-pass_all_on.ensures.standing c.in_ok-collect.ensures

pub returns-clause-known : goal.returns-clause-known
returns-clause-known c may_join known =
    let ground = c.args.ground.now in
    known_after ground.asks.items ground.homes.items c.args.root c.args.marks.now c.hold_all.new.marks c.look_at_all.new.marks c.pass_all_on.new.marks c.collect.new.marks c.in_ok-gone.gone.items
    c.args.roots.now.items c.collect.new.roots.items c.requires.before c.in_ok-hold_all.ensures.holds c.in_ok-gone.ensures c.in_ok-pass_all_on.ensures c.in_ok-collect.ensures may_join known

pub returns-clause-takes : goal.returns-clause-takes
returns-clause-takes c may_join known =
    let ground = c.args.ground.now in
    takes_set ground.asks.items ground.homes.items c.args.root c.args.marks.now c.hold_all.new.marks c.look_at_all.new.marks c.pass_all_on.new.marks c.collect.new.marks c.in_ok-gone.gone.items
    c.args.roots.now.items c.collect.new.roots.items c.requires.before c.in_ok-hold_all.ensures.holds c.in_ok-gone.ensures c.in_ok-pass_all_on.ensures c.in_ok-collect.ensures may_join known
