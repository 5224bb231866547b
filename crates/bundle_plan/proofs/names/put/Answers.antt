use Rattle.std.proofs.Common.{◌≡◌, length, get_or, set, subst, arith}
use Rattle.bundle_plan.proofs.PutNames.{ArePut, one_put}
use Rattle.bundle_plan.proofs.names.put.Goals as goal

pub loop-list-preserved : goal.loop-list-preserved
loop-list-preserved c =
    let members = c.args.members.now in
    let first = c.args.names.now.items in
    let given = c.args.given.items in
    let now = c.loop-list.names.items in
    let rest = c.pop.new.self.items in
    let list = c.in-Some.list in
    let at : length rest ≡ c.len.result = omega (arith, c.pop.new.self.ok, c.len.ensures) in
    subst (λ n. ArePut members first given (set now (get_or members n 0) list) rest) at
    (one_put members first given now c.loop-list.given.items rest list c.requires.apart (λ k h. c.requires.within k 0 h) c.in-Some.ensures.items c.loop-list.invariant)
